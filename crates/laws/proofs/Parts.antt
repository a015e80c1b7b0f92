-- Words at a place of a list: read, and stored in a row by `sets`.
-- Assumes nothing.
use mathlib.Core.Path.{◌≡◌, refl, ap, ◌∙◌}
use mathlib.Core.List.{List, [], ◌∷◌, ◌++◌, append_assoc}
use Prim.Native.Nat.{ℕ, suc, ◌+◌, ◌-◌, ◌≤◌}
use native.Mathlib.Numerals.{add-one}
use native.Mathlib.Nat.{add-zero}
use native.Mathlib.Omega.{arith}
use lib.ListN.{length, get_or, set, take, drop}
use lib.Seq.{drop-cons, sets, sets-eq, length-take-le, take_at, drop_at, drop-set-add, drop-set-lt, take-set-le}

-- ---- three words, as an extension value has

-- the three words from a place on
pub three_words : (l : List ℕ) (at : ℕ) → at + 3 ≤ length l → get_or l at 0 ∷ get_or l (at + 1) 0 ∷ get_or l (at + 2) 0 ∷ [] ≡ take 3 (drop at l)
three_words l at h =
    let a : at + 1 ≡ suc at = omega arith in
    let b : at + 2 ≡ suc (suc at) = omega arith in
    rw (a, b, drop-cons l at 0 (omega arith), drop-cons l (suc at) 0 (omega arith), drop-cons l (suc (suc at)) 0 (omega arith))

-- three stores in a row
pub three_sets : (l : List ℕ) (at x y z : ℕ) → set (set (set l at x) (at + 1) y) (at + 2) z ≡ sets l at (x ∷ y ∷ z ∷ [])
three_sets l at x y z =
    let a : at + 1 ≡ suc at = omega arith in
    let b : at + 2 ≡ suc (suc at) = omega arith in
    rw (a, b)

-- ---- words ws stored from a place on

-- they stand there
pub sets_here : (l : List ℕ) (at : ℕ) (ws : List ℕ) → at + length ws ≤ length l → take (length ws) (drop at (sets l at ws)) ≡ ws
sets_here l at ws h =
    ap (λ (x : List ℕ). take (length ws) (drop at x)) (sets-eq ws l at h ∙ append_assoc (take at l) ws (drop (at + length ws) l))
    ∙ ap (take (length ws)) (drop_at (take at l) (ws ++ drop (at + length ws) l) at (length-take-le at l (omega arith)))
    ∙ take_at ws (drop (at + length ws) l) (length ws) refl

before_one : (l : List ℕ) (i a m k : ℕ) → k + m ≤ i → take m (drop k (set l i a)) ≡ take m (drop k l)
before_one l i a m k h =
    let e : i ≡ k + (i - k) = omega arith in
    let g : m ≤ i - k = omega arith in
    rw (e, drop-set-add k l (i - k) a) (take-set-le m (drop k l) (i - k) a g)

-- words before them stay
pub sets_before : (ws l : List ℕ) (i m k : ℕ) → k + m ≤ i → take m (drop k (sets l i ws)) ≡ take m (drop k l)
sets_before [] l i m k h = refl
sets_before (a ∷ ws) l i m k h = sets_before ws (set l i a) (suc i) m k (omega arith) ∙ before_one l i a m k h

-- and so do words after them
pub sets_after : (ws l : List ℕ) (i k : ℕ) → i + length ws ≤ k → drop k (sets l i ws) ≡ drop k l
sets_after [] l i k h = refl
sets_after (a ∷ ws) l i k h = sets_after ws (set l i a) (suc i) k (omega arith) ∙ drop-set-lt k l i a (omega arith)

-- one word more in front
pub sets_more : (l : List ℕ) (i a : ℕ) (ws : List ℕ) → sets (set l i a) (i + 1) ws ≡ sets l i (a ∷ ws)
sets_more l i a ws = ap (λ (n : ℕ). sets (set l i a) n ws) (add-one i)

-- words stored in two runs, the second where the first ends
pub sets_append : (vs ws l : List ℕ) (i : ℕ) → sets l i (vs ++ ws) ≡ sets (sets l i vs) (i + length vs) ws
sets_append [] ws l i = rw (add-zero i)
sets_append (a ∷ vs) ws l i = let e : i + suc (length vs) ≡ suc i + length vs = omega arith in rw e (sets_append vs ws (set l i a) (suc i))
