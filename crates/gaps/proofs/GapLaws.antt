-- What leads to each answer of the gap report.
-- Assumes nothing.
use mathlib.Core.List.{List, map, map-id}
use lib.Dec.{eqb}
use mathlib.Core.Path.{◌≡◌, refl, sym, ap, ◌∙◌}
use Prim.Native.Nat.{ℕ, ◌<◌, ◌≤◌}
use native.Mathlib.Omega.{arith}
use lib.ListN.{length, take}
use lib.Seq.{length-take-le}
use borrow.Author.Tests.{ne_eqb, lt-ltb, le-ltb}
use Rattle.std.specs.Result.{is_ok}
use Rattle.ir.specs.Refusals.{said_of}
use Rattle.ir.proofs.RefusalLaws.{refusal_number}
use Rattle.std.specs.Prelude.{Result, Ok, Err, slice_get}
use Rattle.std.proofs.lemmas.List.{get_or-take}
use Rattle.std.proofs.lemmas.Option.{slice_get-get_or}
use Rattle.laws.proofs.Folds.{all_same}
use Rattle.ir.specs.declared.refusal.Refusal.{Refusal}
use Rattle.ir.specs.declared.refusal.Refusal.TheVariants.{ShortMemory}
use Rattle.selection.specs.Places.{passes, places, Listed}
use Rattle.gaps.specs.Gaps.{said_of_gaps, no_root, is_gap, gaps_of, gaps_said, GapsAnswer}

-- the report was made where its answer is no refusal
pub is_ok_listed : (r : Result ℕ Refusal) → is_ok r ≡ eqb (said_of_gaps r).number 0
is_ok_listed (Ok count) = refl
is_ok_listed (Err why) = sym (ne_eqb (said_of why).number 0 (refusal_number why))

module _ (roots : List ℕ) (k : ℕ) (old : List ℕ) where
  pub gaps_short : length roots < k → GapsAnswer roots k old old (Err ShortMemory)
  unfolding gaps_said
  gaps_short h = let t = lt-ltb _ _ h in record { said = rw t; written = rw t }

  module _ (long : k ≤ length roots) where
    -- the places in the first k roots are the gaps
    listed : map (λ (i : ℕ). i) (places no_root (take k roots)) ≡ gaps_of roots k
    listed =
        let l = length-take-le k roots long in
        map-id (places no_root (take k roots))
        ∙ rw l
        (all_same (λ i. passes no_root (slice_get (take k roots) i)) (is_gap roots) k
        λ i h.
        ap (passes no_root) (slice_get-get_or (take k roots) i 0 (omega arith)) ∙ ap no_root (get_or-take k roots i 0 h))

    answered : {new : List ℕ} (r : Result ℕ Refusal) → Listed (gaps_of roots k) old new r → GapsAnswer roots k old new r
    unfolding gaps_said
    answered (Ok count) p =
        let t = le-ltb _ _ long in let u = le-ltb _ _ p.1 in record { said = rw (t, u, p.0); written = rw (t, u) p.2 }
    answered (Err why) p =
        let t = le-ltb _ _ long in
        let u = lt-ltb _ _ p.1 in
        record { said = rw (t, u, p.0); written = rw (t, u) p.2 }

    pub gaps_listed : {new : List ℕ} {r : Result ℕ Refusal} → Listed (map (λ i. i) (places no_root (take k roots))) old new r → GapsAnswer roots k old new r
    gaps_listed {new} {r} p = answered r (rw listed at p)
