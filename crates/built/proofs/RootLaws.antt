-- `emit` over lent roots is `emit` on the list of roots.
-- Assumes nothing.
use mathlib.Core.Bool.{Bool, true, false, cond}
use mathlib.Core.List.{List, [], ◌∷◌, ◌++◌, append_assoc, append-nil}
use mathlib.Core.Logic.{by_cases}
use mathlib.Core.Path.{◌≡◌, refl, ap, ◌∙◌}
use Prim.Native.Nat.{ℕ, zero, suc, ◌+◌, ◌-◌, ◌<◌, ◌≤◌, max}
use native.Mathlib.Omega.{arith}
use native.Mathlib.Decide.{dec_lt}
use lib.ListN.{length, set, take, replicate, length-set, replicate-append-replicate}
use lib.Seq.{take-suc-set, take-set-lt, length-take-le}
use borrow.Author.Tests.{lt-ltb, le-ltb}
use Rattle.builder.specs.Roots.{cleared_from}
use Rattle.builder.proofs.RootLaws.{cleared_length, cleared_take}
use Rattle.built.specs.Draft.{rooted}

-- the first k roots are the list's
pub record Roots (rs : List ℕ) (k : ℕ) (l : List ℕ) : Type 0 where
  pub list : take k rs ≡ l
  pub few : k ≤ length rs

module _ (rs : List ℕ) (k c id : ℕ) (h : k ≤ length rs) (l : c < length rs) where
  rooted_words : take (max k (c + 1)) (set (cleared_from rs k (c - k)) c id) ≡ rooted (take k rs) c id
  unfolding rooted cleared_from
  rooted_words =
      let n = length-take-le k rs h in
      by_cases (dec_lt c k)
      (λ i.
      let m : max k (c + 1) ≡ k = omega arith in
      let z : c - k ≡ 0 = omega arith in
      rw (m, z, n, lt-ltb c k i) (take-set-lt k rs c id i))
      λ i.
      let m : max k (c + 1) ≡ suc c = omega arith in
      let z : k + (c - k) ≡ c = omega arith in
      let y = cleared_take rs k (c - k) (omega arith) in
      rw (m, n, le-ltb c k (omega arith))
      (take-suc-set (cleared_from rs k (c - k)) c id (omega (arith, cleared_length rs k (c - k))) ∙ ap (λ x. x ++ (id ∷ [])) (rw z at y))

module _ (rs : List ℕ) (k : ℕ) (list : List ℕ) (s : Roots rs k list) (c id : ℕ) where
  abbrev words : Bool → List ℕ
  words b = cond b rs (set (cleared_from rs k (c - k)) c id)

  -- where some row holds nothing is set
  pub maybe_roots : (b : Bool) → (b ≡ false → c < length rs) → Roots (words b) (cond b k (max k (c + 1))) (cond b list (rooted list c id))
  maybe_roots true l = s
  maybe_roots false l =
      let h = s.few in
      record {
        list = rooted_words rs k c id h (l refl) ∙ ap (λ x. rooted x c id) s.list;
        few = rw (length-set (cleared_from rs k (c - k)) c id, cleared_length rs k (c - k)) (omega (arith, l refl));
      }

  pub maybe_long : (b : Bool) → length (words b) ≡ length rs
  maybe_long true = refl
  maybe_long false = length-set (cleared_from rs k (c - k)) c id ∙ cleared_length rs k (c - k)
