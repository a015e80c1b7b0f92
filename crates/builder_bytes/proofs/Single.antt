-- Each promise on bytes leaves one answer and one memory.
-- Assumes nothing.
use Rattle.ir.specs.declared.refusal.Refusal.{Refusal}
use Rattle.std.specs.Prelude.{Result}
use mathlib.Core.Bool.{Bool, true, false, cond}
use mathlib.Core.List.{[]}
use mathlib.Core.Path.{◌≡◌, refl, sym, ◌∙◌}
use Prim.Native.Nat.{ℕ}
use Rattle.laws.proofs.Cases.{by_test}
use Rattle.ir.specs.Refusals.{refuses}
use Rattle.builder.specs.declared.ir_builder.Made.{Made}
use Rattle.builder.specs.declared.ir_builder.IrBuilder.{IrBuilder}
use Rattle.builder.specs.Answers.{Built}
use Rattle.builder.specs.Consts.{Interned}
use Rattle.gaps.specs.Gaps.{gaps_said}
use Rattle.builder.specs.Roots.{with_roots, Rooting, EmitGives}
use Rattle.builder.proofs.Single.{answer_single, emit_single}
use Rattle.gaps.proofs.Single.{gap_report_single}
use Rattle.byte_words.specs.Rooms.{Lent, held}
use Rattle.builder_bytes.specs.Promises.{short_or, short_tables, short_report, GivesBytes, InternsBytes, EmitBytes, GapsBytes}

pub gives_bytes_single : {o : Built} {b : IrBuilder} {nodes places n₁ n₂ p₁ p₂ : Lent} {r r' : Result Made Refusal} → GivesBytes o b nodes places r n₁ p₁ → GivesBytes o b nodes places r' n₂ p₂ → (r ≡ r') × (n₁ ≡ n₂) × (p₁ ≡ p₂)
gives_bytes_single {o} {b} {nodes} {places} {n₁} {n₂} {p₁} {p₂} {r} {r'} f g =
    (answer_single b r r' (f.said ∙ sym g.said) (f.builder ∙ sym g.builder), f.nodes_end ∙ sym g.nodes_end, f.places_end ∙ sym g.places_end)

pub interns_bytes_single : {counts : IrBuilder → ℕ → ℕ → IrBuilder} {o : Interned} {b : IrBuilder} {nodes places consts n₁ n₂ p₁ p₂ c₁ c₂ : Lent} {r r' : Result Made Refusal}
    → InternsBytes counts o b nodes places consts r n₁ p₁ c₁ → InternsBytes counts o b nodes places consts r' n₂ p₂ c₂
    → (r ≡ r') × (n₁ ≡ n₂) × (p₁ ≡ p₂) × (c₁ ≡ c₂)
interns_bytes_single {counts} {o} {b} {nodes} {places} {consts} {n₁} {n₂} {p₁} {p₂} {c₁} {c₂} {r} {r'} f g = (
  answer_single b r r' (f.said ∙ sym g.said) (f.builder ∙ sym g.builder),
  f.nodes_end ∙ sym g.nodes_end,
  f.places_end ∙ sym g.places_end,
  f.consts_end ∙ sym g.consts_end,
)

-- ---- roots

-- a builder that stays has the root count that it had
roots_after : (short : Bool) (b : IrBuilder) (k : ℕ) → cond short b (with_roots b k) ≡ with_roots b (cond short b.roots k)
roots_after true b k = refl
roots_after false b k = refl

pub emit_bytes_single : {o : Rooting} {b : IrBuilder} {nodes roots n₁ n₂ t₁ t₂ : Lent} {r r' : Result IrBuilder Refusal} → EmitBytes o b nodes roots r n₁ t₁ → EmitBytes o b nodes roots r' n₂ t₂ → (r ≡ r') × (n₁ ≡ n₂) × (t₁ ≡ t₂)
emit_bytes_single {o} {b} {nodes} {roots} {n₁} {n₂} {t₁} {t₂} {r} {r'} f g =
    let short = short_tables nodes roots in
    let after : Rooting = record { said = short_or short o.said; roots = []; count = cond short b.roots o.count } in
    let k = roots_after short b o.count in
    let a : EmitGives after b r [] = record { said = f.said; builder = f.builder ∙ k; roots = refl } in
    let c : EmitGives after b r' [] = record { said = g.said; builder = g.builder ∙ k; roots = refl } in
    ((emit_single after b r r' [] [] a c).0, f.nodes_end ∙ sym g.nodes_end, f.roots_end ∙ sym g.roots_end)

-- ---- the gap report

-- a count of one root where there is none says 1
none_said : refuses 1 0 ≡ gaps_said [] 1 0
unfolding gaps_said
none_said = refl

pub gaps_bytes_single : {k : ℕ} {roots out t₁ t₂ o₁ o₂ : Lent} {r r' : Result ℕ Refusal} → GapsBytes k roots out r t₁ o₁ → GapsBytes k roots out r' t₂ o₂ → (r ≡ r') × (t₁ ≡ t₂) × (o₁ ≡ o₂)
gaps_bytes_single {k} {roots} {out} {t₁} {t₂} {o₁} {o₂} {r} {r'} f g =
    let one : r ≡ r' = by_test (short_report roots out) (r ≡ r') (λ q. by_one q) (λ q. by_words q) in
    (one, f.roots_end ∙ sym g.roots_end, f.out_end ∙ sym g.out_end)
  where
    by_one : short_report roots out ≡ true → r ≡ r'
    by_one q =
        let e = none_said in
        (gap_report_single {roots = []} {k = 1} {old = []} {r = r} {r' = r'} (record { said = (rw q at f.said) ∙ e; written = refl }) (record { said = (rw q at g.said) ∙ e; written = refl })).0

    by_words : short_report roots out ≡ false → r ≡ r'
    by_words q =
        (gap_report_single {roots = held 4 roots} {k = k} {old = held 8 out} {r = r} {r' = r'} (record { said = rw q at f.said; written = refl }) (record { said = rw q at g.said; written = refl })).0
