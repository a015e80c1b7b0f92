-- A call's rows: what is known where it is done, and where it is refused.
-- Assumes nothing.
use mathlib.Core.Bool.{Bool, true, false, ◌&&◌}
use mathlib.Core.List.{List, [], ◌∷◌, ◌++◌}
use Rattle.std.specs.Prelude.{Option, None, Some, Result, Ok, Err}
use mathlib.Core.Path.{◌≡◌, refl, sym, ap, ◌∙◌}
use Prim.Native.Nat.{ℕ}
use native.Mathlib.Omega.{arith}
use lib.Dec.{ltb}
use borrow.Author.Tests.{ltb-true}
use Rattle.laws.proofs.Cases.{by_test}
use Rattle.laws.proofs.Tests.{clash, and_left, and_right, or_left, or_right}
use Rattle.ir.specs.declared.refusal.Refusal.{Refusal}
use Rattle.ir.specs.declared.refusal.Refusal.TheVariants.{ShortMemory, OverLimit, ForeignHandle, NodesFull, ConstantsFull, NoConstraint, IllFormed, TooManyNodes, TooManyRoots, ShortOutput, IllegalBlob, ExtensionRoot, LeafOutside, ShortEvals, BadFraming}
use Rattle.ir.specs.Refusals.{Said, gives, said_of, said_of_outcome, Row, found, first, any_holds}

-- a refusal's number is not 0
pub refusal_number : (r : Refusal) → (said_of r).number ≡ 0 → ⊥
refusal_number ShortMemory e = omega arith
refusal_number OverLimit e = omega arith
refusal_number ForeignHandle e = omega arith
refusal_number NodesFull e = omega arith
refusal_number ConstantsFull e = omega arith
refusal_number NoConstraint e = omega arith
refusal_number (IllFormed at) e = omega arith
refusal_number TooManyNodes e = omega arith
refusal_number TooManyRoots e = omega arith
refusal_number ShortOutput e = omega arith
refusal_number (IllegalBlob at) e = omega arith
refusal_number (ExtensionRoot at) e = omega arith
refusal_number (LeafOutside at) e = omega arith
refusal_number ShortEvals e = omega arith
refusal_number BadFraming e = omega arith

-- every row's number is a refusal's
abbrev pub numbered : List Row → Bool
numbered [] = true
numbered (r ∷ rs) = ltb 0 r.number && numbered rs

module _ (vs : List ℕ) where
  -- done: no row holds
  pub done_quiet : (rows : List Row) → numbered rows ≡ true → (first rows (gives vs)).number ≡ 0 → any_holds rows ≡ false
  done_quiet [] n e = refl
  done_quiet (r ∷ rs) n e =
      by_test r.holds (any_holds (r ∷ rs) ≡ false)
      (λ h. let q = ltb-true 0 r.number (and_left (ltb 0 r.number) (numbered rs) n) in let z : r.number ≡ 0 = rw h at e in absurd (omega arith))
      λ h. rw h (done_quiet rs (and_right (ltb 0 r.number) (numbered rs) n) (rw h at e))

  -- refused: some row does
  pub refused_loud : (rows : List Row) → ((first rows (gives vs)).number ≡ 0 → ⊥) → any_holds rows ≡ true
  refused_loud [] n = absurd (n refl)
  refused_loud (r ∷ rs) n =
      by_test r.holds (any_holds (r ∷ rs) ≡ true)
      (λ h. rw h)
      λ h. rw h (refused_loud rs (λ e. n (rw h e)))

-- a row that does not hold found no place
pub not_found : (o : Option ℕ) → found o ≡ false → o ≡ None
not_found None h = refl
not_found (Some i) h = clash refl h

-- a refusal among the first rows is the call's
pub first_loud : (a b : List Row) (s t : Said) → any_holds a ≡ true → first (a ++ b) s ≡ first a t
first_loud [] b s t h = clash h refl
first_loud (r ∷ rs) b s t h =
    by_test r.holds (first ((r ∷ rs) ++ b) s ≡ first (r ∷ rs) t) (λ q. rw q) λ q. rw q (first_loud rs b s t (rw q at h))

pub first_quiet : (a b : List Row) (s : Said) → any_holds a ≡ false → first (a ++ b) s ≡ first b s
first_quiet [] b s h = refl
first_quiet (r ∷ rs) b s h =
    let q = or_left r.holds (any_holds rs) h in rw q (first_quiet rs b s (or_right r.holds (any_holds rs) h))

-- ---- an inner call's answer, in the call around it

pub refused_rows : (a b : List Row) {o : Result (Unit {0}) Refusal} {why : Refusal} → o ≡ Err why → said_of_outcome o ≡ first a (gives []) → said_of why ≡ first (a ++ b) (gives [])
refused_rows a b {o} {why} e h =
    let q : said_of why ≡ first a (gives []) = rw e at h in
    q ∙ sym (first_loud a b (gives []) (gives []) (refused_loud [] a (λ z. refusal_number why (ap (λ (s : Said). s.number) q ∙ z))))

pub done_rows : (a : List Row) {o : Result (Unit {0}) Refusal} → numbered a ≡ true → o ≡ Ok tt → said_of_outcome o ≡ first a (gives []) → any_holds a ≡ false
done_rows a {o} n e h =
    let q : gives [] ≡ first a (gives []) = rw e at h in
    done_quiet [] a n (sym (ap (λ (s : Said). s.number) q))

pub loud_rows : (a : List Row) {o : Result (Unit {0}) Refusal} {why : Refusal} → o ≡ Err why → said_of_outcome o ≡ first a (gives []) → any_holds a ≡ true
loud_rows a {o} {why} e h =
    let q : said_of why ≡ first a (gives []) = rw e at h in
    refused_loud [] a (λ z. refusal_number why (ap (λ (s : Said). s.number) q ∙ z))

-- what is done matters only where no row holds
pub first_any : (a : List Row) (s t : Said) → any_holds a ≡ true → first a s ≡ first a t
first_any [] s t h = clash h refl
first_any (r ∷ rs) s t h = by_test r.holds (first (r ∷ rs) s ≡ first (r ∷ rs) t) (λ q. rw q) λ q. rw q (first_any rs s t (rw q at h))

pub first_none : (a : List Row) (s : Said) → any_holds a ≡ false → first a s ≡ s
first_none [] s h = refl
first_none (r ∷ rs) s h = rw (or_left r.holds (any_holds rs) h) (first_none rs s (or_right r.holds (any_holds rs) h))
