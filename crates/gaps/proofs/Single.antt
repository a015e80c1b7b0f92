-- The promise of `gap_report` leaves one answer and one memory, and its rows stand in document 01's order.
-- Assumes nothing.
use mathlib.Core.Bool.{true, cond}
use mathlib.Core.List.{List, [], ◌∷◌}
use mathlib.Core.Path.{◌≡◌, refl, sym, ap, ◌∙◌}
use Prim.Native.Nat.{ℕ}
use lib.Dec.{eqb}
use lib.ListN.{get_or}
use Rattle.ir.specs.Refusals.{Said, in_order}
use Rattle.ir.proofs.Single.{refusal_of, known}
use Rattle.gaps.specs.Gaps.{said_of_gaps, gap_rows, GapsAnswer}
use Rattle.ir.specs.declared.refusal.Refusal.{Refusal}
use Rattle.std.specs.Prelude.{Result, Ok, Err}

abbrev gaps_saying : Said → Result ℕ Refusal
gaps_saying s = cond (eqb s.number 0) (Ok (get_or s.values 0 0)) (Err (refusal_of s.number s.place))

gaps_back : (r : Result ℕ Refusal) → gaps_saying (said_of_gaps r) ≡ r
gaps_back (Ok count) = refl
gaps_back (Err r) = rw ((known r).0, (known r).1)

pub gap_report_single : {roots : List ℕ} {k : ℕ} {old new new' : List ℕ} {r r' : Result ℕ Refusal} → GapsAnswer roots k old new r → GapsAnswer roots k old new' r' → (r ≡ r') × (new ≡ new')
gap_report_single {roots} {k} {old} {new} {new'} {r} {r'} f g =
    (sym (gaps_back r) ∙ ap gaps_saying (f.said ∙ sym g.said) ∙ gaps_back r', f.written ∙ sym g.written)

-- 1, then 10
pub gap_report_in_order : (roots : List ℕ) (k room : ℕ) → in_order (gap_rows roots k room) (1 ∷ 10 ∷ []) ≡ true
gap_report_in_order roots k room = refl
