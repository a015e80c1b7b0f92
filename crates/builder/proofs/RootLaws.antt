-- Words that become 0.
-- Assumes nothing.
use mathlib.Core.List.{List, ◌++◌, append_assoc, append-nil}
use mathlib.Core.Path.{◌≡◌, refl, sym, ap, ◌∙◌}
use Prim.Native.Nat.{ℕ, zero, suc, ◌+◌, ◌-◌, ◌<◌, ◌≤◌}
use native.Mathlib.Omega.{arith}
use Rattle.std.specs.Prelude.{[], ◌∷◌}
use Rattle.std.proofs.lemmas.List.{drop-set-lt, take-append-drop, length-take, length-drop, length-replicate, take_all}
use Rattle.std.proofs.lemmas.Slice.{take-put_mid, drop-put_mid}
use borrow.Rule.Slice.PartMut.{put_mid}
use lib.ListN.{length, take, drop, replicate, length-set, replicate-append-replicate}
use lib.Seq.{take-suc-set}
use Rattle.builder.specs.Roots.{cleared_from}

pub cleared_length : (l : List ℕ) (k d : ℕ) → length (cleared_from l k d) ≡ length l
unfolding cleared_from
cleared_length l k zero = refl
cleared_length l k (suc d) = length-set (cleared_from l k d) (k + d) 0 ∙ cleared_length l k d

pub cleared_take : (l : List ℕ) (k d : ℕ) → k + d ≤ length l → take (k + d) (cleared_from l k d) ≡ take k l ++ replicate d 0
unfolding cleared_from
cleared_take l k zero h = let e : k + 0 ≡ k = omega arith in rw (e, append-nil)
cleared_take l k (suc d) h =
    let e : k + suc d ≡ suc (k + d) = omega arith in
    let o : d + 1 ≡ suc d = omega arith in
    rw e
    (take-suc-set (cleared_from l k d) (k + d) 0 (omega (arith, cleared_length l k d)) ∙ ap (λ x. x ++ (0 ∷ [])) (cleared_take l k d (omega arith))
    ∙ append_assoc (take k l) (replicate d 0) (0 ∷ []) ∙ ap (λ x. take k l ++ x) (replicate-append-replicate d 1 0 ∙ ap (λ n. replicate n 0) o))

cleared_drop : (l : List ℕ) (k d n : ℕ) → k + d ≤ n → drop n (cleared_from l k d) ≡ drop n l
unfolding cleared_from
cleared_drop l k zero n h = refl
cleared_drop l k (suc d) n h = drop-set-lt n (cleared_from l k d) (k + d) 0 (omega arith) ∙ cleared_drop l k d n (omega arith)

-- two lists that agree in the first n elements and in those after them
split_same : (n : ℕ) (a b : List ℕ) → take n a ≡ take n b → drop n a ≡ drop n b → a ≡ b
split_same n a b t d = sym (take-append-drop n a) ∙ (λ i. t i ++ d i) ∙ take-append-drop n b

-- what `fill` leaves of all words, and of those from k to c
module _ (l : List ℕ) where
  pub range_cleared : (k c : ℕ) (zs : List ℕ) → k < c → c ≤ length l → zs ≡ replicate (length (take (c - k) (drop k l))) 0
      → put_mid k (c - k) l zs ≡ cleared_from l k (c - k)
  range_cleared k c zs h q e =
      let n : length (take (c - k) (drop k l)) ≡ c - k = simp (length-take, length-drop) (omega arith) in
      let z : zs ≡ replicate (c - k) 0 = rw n at e in
      let m : length zs ≡ c - k = simp (z, length-replicate) in
      let s : k + (c - k) ≡ c = omega arith in
      let t : take c (cleared_from l k (c - k)) ≡ take k l ++ replicate (c - k) 0 = rw s at (cleared_take l k (c - k) (omega arith)) in
      split_same c (put_mid k (c - k) l zs) (cleared_from l k (c - k))
      (take-put_mid k (c - k) l zs c (omega arith) (omega arith) ∙ ap (λ x. take k l ++ x) z ∙ sym t)
      (drop-put_mid k (c - k) l zs c (omega arith) (omega arith) m ∙ sym (cleared_drop l k (c - k) c (omega arith)))

  pub all_cleared : replicate (length l) 0 ≡ cleared_from l 0 (length l)
  all_cleared =
      let x = cleared_from l 0 (length l) in
      sym (cleared_take l 0 (length l) (omega arith)) ∙ take_all (0 + length l) x (omega (arith, cleared_length l 0 (length l)))
