-- Each call's promise leaves one answer and one memory.
-- Assumes nothing.
use mathlib.Core.Bool.{cond}
use mathlib.Core.List.{List}
use mathlib.Core.Path.{◌≡◌, refl, sym, ◌∙◌}
use Prim.Native.Nat.{ℕ}
use lib.Dec.{eqb}
use lib.ListN.{get_or}
use Rattle.std.specs.Prelude.{Result, Ok, Err}
use Rattle.ir.specs.declared.refusal.Refusal.{Refusal}
use Rattle.ir.specs.Refusals.{Said}
use Rattle.ir.proofs.Single.{refusal_of, known}
use Rattle.builder.specs.Answers.{said_of_answer, builder_after, Built, Gives}
use Rattle.builder.specs.Consts.{Interned, Interns}
use Rattle.builder.specs.Roots.{said_of_emitted, builder_emitted, Rooting, EmitGives}
use Rattle.builder.specs.declared.ir_builder.IrBuilder.{IrBuilder}
use Rattle.builder.specs.declared.ir_builder.Made.{Made}

-- the answer that says so and leaves that builder
abbrev answer_said : Said → IrBuilder → Result Made Refusal
answer_said s a =
    cond (eqb s.number 0) (Ok (record { expr = record { id = get_or s.values 0 0; dim = get_or s.values 1 0 }; builder = a }))
    (Err (refusal_of s.number s.place))

answer_back : (b : IrBuilder) (r : Result Made Refusal) → answer_said (said_of_answer r) (builder_after b r) ≡ r
answer_back b (Ok m) = refl
answer_back b (Err r) = rw ((known r).0, (known r).1)

pub answer_single : (b : IrBuilder) (r r' : Result Made Refusal) → said_of_answer r ≡ said_of_answer r' → builder_after b r ≡ builder_after b r' → r ≡ r'
answer_single b r r' e q = sym (answer_back b r) ∙ (λ i. answer_said (e i) (q i)) ∙ answer_back b r'

-- every call that touches nodes and places alone, whatever its definition
pub gives_single : (o : Built) (b : IrBuilder) (r r' : Result Made Refusal) (ns ps ns' ps' : List ℕ) → Gives o b r ns ps → Gives o b r' ns' ps' → (r ≡ r') × (ns ≡ ns') × (ps ≡ ps')
gives_single o b r r' ns ps ns' ps' f g =
    (answer_single b r r' (f.said ∙ sym g.said) (f.builder ∙ sym g.builder), f.nodes ∙ sym g.nodes, f.places ∙ sym g.places)

-- ---- emit

abbrev emitted_said : Said → IrBuilder → Result IrBuilder Refusal
emitted_said s a = cond (eqb s.number 0) (Ok a) (Err (refusal_of s.number s.place))

emitted_back : (b : IrBuilder) (r : Result IrBuilder Refusal) → emitted_said (said_of_emitted r) (builder_emitted b r) ≡ r
emitted_back b (Ok a) = refl
emitted_back b (Err r) = rw ((known r).0, (known r).1)

pub emit_single : (o : Rooting) (b : IrBuilder) (r r' : Result IrBuilder Refusal) (rs rs' : List ℕ) → EmitGives o b r rs → EmitGives o b r' rs' → (r ≡ r') × (rs ≡ rs')
emit_single o b r r' rs rs' f g =
    let e = f.said ∙ sym g.said in
    let q = f.builder ∙ sym g.builder in
    (sym (emitted_back b r) ∙ (λ i. emitted_said (e i) (q i)) ∙ emitted_back b r', f.roots ∙ sym g.roots)

-- ---- constants

pub interns_single : (counts : IrBuilder → ℕ → ℕ → IrBuilder) (o : Interned) (b : IrBuilder) (r r' : Result Made Refusal) (ns ps bs ns' ps' bs' : List ℕ) → Interns counts o b r ns ps bs → Interns counts o b r' ns' ps' bs'
    → (r ≡ r') × (ns ≡ ns') × (ps ≡ ps') × (bs ≡ bs')
interns_single counts o b r r' ns ps bs ns' ps' bs' f g =
    (answer_single b r r' (f.said ∙ sym g.said) (f.builder ∙ sym g.builder), f.nodes ∙ sym g.nodes, f.places ∙ sym g.places, f.consts ∙ sym g.consts)
