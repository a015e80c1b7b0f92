-- Words that a call put into a part of a list: its front, or its tail.
-- Assumes nothing.
use mathlib.Core.List.{List, [], ◌∷◌, ◌++◌, append-nil}
use mathlib.Core.Path.{◌≡◌, refl, sym, ap, ◌∙◌}
use Prim.Native.Nat.{ℕ, zero, suc, ◌+◌, ◌-◌, ◌≤◌}
use native.Mathlib.Omega.{arith}
use borrow.Rule.Slice.PartMut.{put_mid}
use lib.ListN.{length, set, take, drop, length-drop}
use lib.Seq.{sets, sets-eq}
use Rattle.std.proofs.lemmas.List.{take_all, drop_all}
use Rattle.stored_parts.proofs.WordLaws.{drop_none}

-- as many as the front takes
pub front_put : (l : List ℕ) {new : List ℕ} (k : ℕ) (ws : List ℕ) → length ws ≡ k → k ≤ length l → new ≡ ws → new ++ drop k l ≡ sets l 0 ws
front_put l k ws e h q =
    let z : k ≡ 0 + length ws = omega arith in
    ap (λ (x : List ℕ). x ++ drop k l) q ∙ rw z (sym (sets-eq ws l 0 (omega arith)))

shifted : (x : ℕ) (l ws : List ℕ) (i : ℕ) → sets (x ∷ l) (suc i) ws ≡ x ∷ sets l i ws
shifted x l [] i = refl
shifted x l (w ∷ ws) i = shifted x (set l i w) ws (suc i)

in_tail : (l : List ℕ) (k : ℕ) (ws : List ℕ) → k ≤ length l → take k l ++ sets (drop k l) 0 ws ≡ sets l k ws
in_tail l zero ws h = ap (λ (x : List ℕ). sets x 0 ws) (drop_none l)
in_tail [] (suc k) ws h = absurd (omega arith)
in_tail (x ∷ l) (suc k) ws h = ap (λ (r : List ℕ). x ∷ r) (in_tail l k ws (omega arith)) ∙ sym (shifted x l ws k)

-- the list from k on, as a call is lent it
abbrev pub tail : List ℕ → ℕ → List ℕ
tail l k = take (length l - k) (drop k l)

pub tail_is : (l : List ℕ) (k : ℕ) → tail l k ≡ drop k l
tail_is l k = take_all (length l - k) (drop k l) (simp length-drop (omega arith))

-- and the whole list after a call that left new there
abbrev pub with_tail : List ℕ → ℕ → List ℕ → List ℕ
with_tail l k new = put_mid k (length l - k) l new

pub tail_put : (l : List ℕ) {new : List ℕ} (k : ℕ) (ws : List ℕ) → k ≤ length l → new ≡ sets (tail l k) 0 ws → with_tail l k new ≡ sets l k ws
tail_put l {new} k ws h q =
    let all : length (drop k l) ≤ length l - k = simp length-drop (omega arith) in
    ap (λ (r : List ℕ). take k l ++ (new ++ r)) (drop_all (length l - k) (drop k l) all)
    ∙ ap (λ (r : List ℕ). take k l ++ r) (append-nil new ∙ q ∙ ap (λ (r : List ℕ). sets r 0 ws) (tail_is l k))
    ∙ in_tail l k ws h
