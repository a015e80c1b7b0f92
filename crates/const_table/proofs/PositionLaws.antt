-- Laws of the search for a constant, and of the room for a new one.
-- Assumes nothing.
use mathlib.Core.Bool.{Bool, true, false}
use mathlib.Core.Path.{◌≡◌, refl, sym, ap, ◌∙◌}
use Prim.Native.Nat.{ℕ, zero, suc, ◌+◌, ◌-◌, ◌<◌, ◌≤◌, min}
use native.Mathlib.Numerals.{add-one}
use native.Mathlib.Omega.{arith}
use borrow.Author.Tests.{leb-false, ltb-true, ltb-false, lt-ltb, le-ltb, lt-leb, le-leb}
use Rattle.std.specs.Prelude.{not, Option, Some, None, is_some, is_none, unwrap_or, ltb, leb}
use Rattle.ir.specs.Program.{most}
use Rattle.const_table.specs.Positions.{scan, found, crowded_b}
use Rattle.node_table.proofs.Laws.{cond_case}

module _ (test : ℕ → Bool) where
  scan_le : (left i : ℕ) → scan test left i ≤ i + left
  unfolding scan
  scan_le zero i = omega arith
  scan_le (suc left) i =
      cond_case (λ r. r ≤ i + suc left) (test i) i (scan test left (suc i)) (λ q. omega arith) λ q. omega (arith, scan_le left (suc i))

  scan_on : (m i : ℕ) → i < m → test i ≡ false → scan test (m - i) i ≡ scan test (m - (i + 1)) (i + 1)
  unfolding scan
  scan_on m i h e = let q : m - i ≡ suc (m - (i + 1)) = omega arith in rw (q, e) (ap (scan test (m - (i + 1))) (sym (add-one i)))

  scan_here : (m i : ℕ) → i < m → test i ≡ true → scan test (m - i) i ≡ i
  unfolding scan
  scan_here m i h e = let q : m - i ≡ suc (m - (i + 1)) = omega arith in rw (q, e)

  scan_end : (m i : ℕ) → m ≤ i → scan test (m - i) i ≡ i
  unfolding scan
  scan_end m i h = let q : m - i ≡ 0 = omega arith in rw q

pub scan_most : (test : ℕ → Bool) (m : ℕ) → scan test m 0 ≤ m
scan_most test m = omega (arith, scan_le test m 0)

-- the first i of m constants have another value
pub record Scanning (test : ℕ → Bool) (m i : ℕ) : Type 0 where
  pub few : i ≤ m
  pub on : scan test m 0 ≡ scan test (m - i) i

module _ (test : ℕ → Bool) (m : ℕ) where
  pub scanning_start : Scanning test m 0
  scanning_start = let q : m ≡ m - 0 = omega arith in record { few = omega arith; on = ap (λ n. scan test n 0) q }

  module _ (i : ℕ) (s : Scanning test m i) where
    pub scanning_more : (b : Bool) → i < m → b ≡ test i → b ≡ false → Scanning test m (i + 1)
    scanning_more b h e n = record { few = omega arith; on = s.on ∙ scan_on test m i h (sym e ∙ n) }

    pub scanning_here : (b : Bool) → i < m → b ≡ test i → b ≡ true → Some i ≡ found test m
    scanning_here b h e n =
        let q : scan test m 0 ≡ i = s.on ∙ scan_here test m i h (sym e ∙ n) in rw (q, lt-ltb i m h)

    pub scanning_end : m ≤ i → None ≡ found test m
    scanning_end h =
        let q : scan test m 0 ≡ i = s.on ∙ scan_end test m i h in rw (q, le-ltb i m h)

  -- what is found is the scan's answer, and it is new where nothing is found
  pub found_at : unwrap_or (found test m) m ≡ scan test m 0
  found_at =
      cond_case (λ o. unwrap_or o m ≡ scan test m 0) (ltb (scan test m 0) m) (Some (scan test m 0)) None
      (λ q. refl) λ q. omega (arith, ltb-false (scan test m 0) m q, scan_most test m)

  pub found_new : is_none (found test m) ≡ leb m (scan test m 0)
  found_new =
      cond_case (λ o. is_none o ≡ leb m (scan test m 0)) (ltb (scan test m 0) m) (Some (scan test m 0)) None
      (λ q. sym (lt-leb _ _ (ltb-true _ _ q))) λ q. sym (le-leb _ _ (ltb-false _ _ q))

-- ---- a constant of either class

-- room for a new constant
pub record Space (fits m : ℕ) : Type 0 where
  pub few : m < most
  pub fit : m < fits

not_not : (b : Bool) → b ≡ not (not b)
not_not true = refl
not_not false = refl

pub new_space : (new : Bool) (fits m : ℕ) (f : Bool) → f ≡ crowded_b new fits m → f ≡ false → new ≡ true → Space fits m
unfolding crowded_b
new_space new fits m f e q n =
    let h = sym e ∙ q in
    let l = leb-false (min fits most) m (rw n at h) in
    record { few = omega arith; fit = omega arith }

-- ---- what a search among the constants that there are tells of a constant

module _ (test : ℕ → Bool) (m known : ℕ) (at : Option ℕ) (e : known ≡ min m most) (h : at ≡ found test known) where
  -- its place, the one after them where it is new
  pub place_of : unwrap_or at known ≡ scan test (min m most) 0
  place_of = rw (h, e) (found_at test (min m most))

  pub place_low : unwrap_or at known ≤ most
  place_low = omega (arith, place_of, scan_most test (min m most))

  pub is_new : {new : Bool} → is_some at ≡ not new → new ≡ leb (min m most) (scan test (min m most) 0)
  is_new {new} q = let n : new ≡ is_none at = not_not new ∙ ap not (sym q) in n ∙ ap is_none (h ∙ ap (found test) e) ∙ found_new test (min m most)
