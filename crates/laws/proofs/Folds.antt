-- Laws of the folds over the numbers below n.
-- Assumes nothing.
use mathlib.Core.Bool.{Bool, true, false, cond, ◌||◌}
use mathlib.Core.List.{[], ◌∷◌, ◌++◌}
use mathlib.Core.Logic.{⊎_elim}
use Rattle.std.specs.Prelude.{Option, None, Some}
use mathlib.Core.Path.{◌≡◌, refl, ap}
use Prim.Native.Nat.{ℕ, zero, suc, ◌+◌, ◌<◌, ◌≤◌}
use native.Mathlib.Decide.{le_ind}
use native.Mathlib.Nat.{eq-or-lt_of_le, le_refl}
use native.Mathlib.Numerals.{add-one}
use native.Mathlib.Omega.{arith}
use lib.ListN.{length, length-append}
use Rattle.laws.specs.Folds.{any_below, lowest, or_else, all_below, through}

-- no place is some place
pub none_some : {P : Type 0} {A : Type 0} {o : Option A} {x : A} → o ≡ None → o ≡ Some x → P
none_some p q = absurd (let z : ◌≡◌ {A = ℕ} 0 1 = cc in omega arith)

pub or_none_left : (a b : Option ℕ) → or_else a b ≡ None → a ≡ None
or_none_left None b h = refl
or_none_left (Some i) b h = none_some h refl

pub or_none_right : (a b : Option ℕ) → or_else a b ≡ None → b ≡ None
or_none_right None b h = h
or_none_right (Some i) b h = none_some h refl

not_here : (b : Bool) (n : ℕ) → cond b (Some n) None ≡ None → b ≡ false
not_here true n h = none_some h refl
not_here false n h = refl

one_or_none : (b : Bool) (i : ℕ) → length (cond b (i ∷ []) []) ≡ cond b 1 0
one_or_none true i = refl
one_or_none false i = refl

module _ (t : ℕ → Bool) where
  pub lowest_start : lowest t 0 ≡ None
  unfolding lowest
  lowest_start = refl

  pub lowest_on : (i : ℕ) → lowest t i ≡ None → t i ≡ false → lowest t (i + 1) ≡ None
  unfolding lowest
  lowest_on i h e = rw (add-one, h, e)

  pub lowest_at : (i : ℕ) → lowest t i ≡ None → t i ≡ true → lowest t (i + 1) ≡ Some i
  unfolding lowest
  lowest_at i h e = rw (add-one, h, e)

  -- a place that was found stays the lowest
  pub lowest_stays : (k : ℕ) {i n : ℕ} → k ≤ n → lowest t k ≡ Some i → lowest t n ≡ Some i
  unfolding lowest
  lowest_stays k {i} {n} l h = le_ind (λ m. lowest t m ≡ Some i) h (λ m q e. rw e) n l

  -- nothing is found exactly where the test fails everywhere
  pub lowest_none : (n : ℕ) → lowest t n ≡ None → (i : ℕ) → i < n → t i ≡ false
  unfolding lowest
  lowest_none zero h i l = absurd (omega arith)
  lowest_none (suc n) h i l =
      ⊎_elim (λ (e : i ≡ n). rw e (not_here (t n) n (or_none_right (lowest t n) (cond (t n) (Some n) None) h))) (λ (m : i < n). lowest_none n (or_none_left (lowest t n) (cond (t n) (Some n) None) h) i m)
      (let m : i ≤ n = omega arith in eq-or-lt_of_le m)

  pub none_lowest : (n : ℕ) → ((i : ℕ) → i < n → t i ≡ false) → lowest t n ≡ None
  unfolding lowest
  none_lowest zero h = refl
  none_lowest (suc n) h = rw (none_lowest n (λ i l. h i (omega arith)), h n (omega arith))

  -- ---- whether it holds at one of them, and where

  pub any_start : any_below t 0 ≡ false
  unfolding any_below
  any_start = refl

  pub any_more : (i : ℕ) → any_below t (i + 1) ≡ (any_below t i || t i)
  unfolding any_below
  any_more i = rw (add-one i)

  pub any_none : (n : ℕ) → ((i : ℕ) → i < n → t i ≡ false) → any_below t n ≡ false
  unfolding any_below
  any_none zero h = refl
  any_none (suc n) h = rw (any_none n (λ i l. h i (omega arith)), h n (omega arith))

  pub all_start : all_below t 0 ≡ []
  unfolding all_below
  all_start = refl

  pub all_more : (i : ℕ) → all_below t (i + 1) ≡ all_below t i ++ cond (t i) (i ∷ []) []
  unfolding all_below
  all_more i = rw (add-one i)

  -- one more where it holds
  pub all_count : (i : ℕ) → length (all_below t (i + 1)) ≡ length (all_below t i) + cond (t i) 1 0
  all_count i = rw (all_more i, length-append (all_below t i) (cond (t i) (i ∷ []) [])) (ap (λ (k : ℕ). length (all_below t i) + k) (one_or_none (t i) i))

  pub all_grows : {m n : ℕ} → m ≤ n → length (all_below t m) ≤ length (all_below t n)
  unfolding all_below
  all_grows {m} {n} l = le_ind (λ k. length (all_below t m) ≤ length (all_below t k)) (le_refl _) (λ k (q : m ≤ k) e. simp length-append (omega arith)) n l

-- tests that agree below n list the same places
pub all_same : (s t : ℕ → Bool) (n : ℕ) → ((i : ℕ) → i < n → s i ≡ t i) → all_below s n ≡ all_below t n
unfolding all_below
all_same s t zero h = refl
all_same s t (suc n) h = rw (all_same s t n (λ i l. h i (omega arith)), h n (omega arith))

module _ {A : Type 0} (step : A → ℕ → A) where
  pub through_none : (start : A) → through step start 0 ≡ start
  unfolding through
  through_none start = refl

  pub through_more : (start : A) (k : ℕ) → through step start (k + 1) ≡ step (through step start k) k
  unfolding through
  through_more start k = rw add-one

  -- what each step keeps of two values, the whole keeps
  pub through_keeps : (R : A → A → Type 0) → ((a b : A) (k : ℕ) → R a b → R (step a k) (step b k)) → {a b : A} (n : ℕ) → R a b → R (through step a n) (through step b n)
  unfolding through
  through_keeps R keep zero e = e
  through_keeps R keep (suc n) e = keep _ _ n (through_keeps R keep n e)

-- two tests that agree as long as neither has held find the same place
pub lowest_same : (s t : ℕ → Bool) (n : ℕ) → ((i : ℕ) → i < n → lowest t i ≡ None → s i ≡ t i) → lowest s n ≡ lowest t n
unfolding lowest
lowest_same s t zero h = refl
lowest_same s t (suc n) h = rw (lowest_same s t n (λ i l. h i (omega arith))) (last (lowest t n) refl)
  where
    last : (o : Option ℕ) → lowest t n ≡ o → or_else o (cond (s n) (Some n) None) ≡ or_else o (cond (t n) (Some n) None)
    last None e = rw (h n (omega arith) e)
    last (Some i) e = refl
