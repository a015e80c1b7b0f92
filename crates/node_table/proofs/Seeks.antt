-- One turn of the lookup's loop.
-- Assumes nothing.
use Rattle.std.proofs.Common.{◌≡◌, ℕ, zero, suc, ◌-◌, ◌%◌, ◌<◌, Bool, true, false, List, length, get_or, sym, refl, ◌∙◌, mod-lt, arith}
use Rattle.ir.specs.Words.{Node}
use Rattle.node_table.specs.Hashing.{hash_of, start_of}
use Rattle.node_table.specs.Table.{next, seek, stops, find, table}
use Rattle.node_table.proofs.Ring.{next_low}

module _ (test : ℕ → Bool) (k : ℕ) where
  seek_on : (left at : ℕ) → (left ≡ 0 → ⊥) → test at ≡ false → seek test k left at ≡ seek test k (left - 1) (next k at)
  unfolding seek
  seek_on zero at n e = absurd (n refl)
  seek_on (suc left) at n e = let q : suc left - 1 ≡ left = omega arith in rw (e, q)

  seek_here : (left at : ℕ) → (left ≡ 0 → ⊥) → test at ≡ true → seek test k left at ≡ at
  unfolding seek
  seek_here zero at n e = absurd (n refl)
  seek_here (suc left) at n e = rw e

  seek_end : (left at : ℕ) → left ≡ 0 → seek test k left at ≡ k
  unfolding seek
  seek_end left at e = rw e

abbrev answer : List ℕ → ℕ → List ℕ → Node → ℕ
answer nodes n places w = find (start_of (length places) w) (table nodes places n) w

abbrev test : List ℕ → ℕ → List ℕ → Node → ℕ → Bool
test nodes n places w at = stops nodes n w (get_or places at 0)

-- the lookup of w has `left` places to go, from `at`
pub record Seeking (nodes : List ℕ) (n : ℕ) (places : List ℕ) (w : Node) (at left : ℕ) : Type 0 where
  pub low : at < length places
  pub on : answer nodes n places w ≡ seek (test nodes n places w) (length places) left at

module _ (nodes : List ℕ) (n : ℕ) (places : List ℕ) (w : Node) where
  pub no_places : length places ≡ 0 → length places ≡ answer nodes n places w
  unfolding find
  no_places e = sym (seek_end (test nodes n places w) (length places) (length places) _ e)

  pub seeking_start : (h : ℕ) → (length places ≡ 0 → ⊥) → h ≡ hash_of w → Seeking nodes n places w (h % length places) (length places)
  unfolding find
  seeking_start h k e = rw e (record { low = mod-lt (hash_of w) (omega arith); on = refl })

  module _ (at left : ℕ) (s : Seeking nodes n places w at left) where
    pub seeking_more : (a : ℕ) (b : Bool) → (left ≡ 0 → ⊥) → b ≡ test nodes n places w at → b ≡ false → a ≡ next (length places) at
        → Seeking nodes n places w a (left - 1)
    seeking_more a b m q f g =
        rw g (record { low = next_low (length places) at s.low; on = s.on ∙ seek_on (test nodes n places w) (length places) left at m (sym q ∙ f) })

    pub seeking_here : (b : Bool) → (left ≡ 0 → ⊥) → b ≡ test nodes n places w at → b ≡ true → at ≡ answer nodes n places w
    seeking_here b m q f =
        sym (s.on ∙ seek_here (test nodes n places w) (length places) left at m (sym q ∙ f))

    pub seeking_end : left ≡ 0 → length places ≡ answer nodes n places w
    seeking_end m = sym (s.on ∙ seek_end (test nodes n places w) (length places) left at m)
