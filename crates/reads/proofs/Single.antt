-- The promise of `next_row_trace_reads` leaves one answer and one memory.
-- Assumes nothing.
use Rattle.std.specs.Prelude.{Result, Ok, Err}
use Rattle.ir.specs.declared.refusal.Refusal.{Refusal}
use mathlib.Core.Bool.{cond}
use mathlib.Core.List.{List}
use mathlib.Core.Path.{◌≡◌, refl, sym, ap, ◌∙◌}
use Prim.Native.Nat.{ℕ}
use lib.Dec.{eqb}
use lib.ListN.{get_or}
use Rattle.ir.specs.Program.{Program}
use Rattle.reads.specs.Reads.{said_of_columns, ReadsAnswer}
use Rattle.ir.specs.Refusals.{Said}
use Rattle.ir.proofs.Single.{refusal_of, known}

abbrev columns_said : Said → Result ℕ Refusal
columns_said s = cond (eqb s.number 0) (Ok (get_or s.values 0 0)) (Err (refusal_of s.number s.place))

columns_back : (a : Result ℕ Refusal) → columns_said (said_of_columns a) ≡ a
columns_back (Ok count) = refl
columns_back (Err r) = rw ((known r).0, (known r).1)

pub columns_single : (a a' : Result ℕ Refusal) → said_of_columns a ≡ said_of_columns a' → a ≡ a'
columns_single a a' e = sym (columns_back a) ∙ ap columns_said e ∙ columns_back a'

pub next_row_trace_reads_single : {p : Program} {width : ℕ} {old new new' : List ℕ} {a a' : Result ℕ Refusal} → ReadsAnswer p width old new a → ReadsAnswer p width old new' a' → (a ≡ a') × (new ≡ new')
next_row_trace_reads_single {p} {width} {old} {new} {new'} {a} {a'} f g =
    (columns_single a a' (f.said ∙ sym g.said), f.written ∙ sym g.written)
