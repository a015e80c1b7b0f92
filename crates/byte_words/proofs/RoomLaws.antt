-- One table through a call over bytes: unpacked, lent, left and packed back.
-- Assumes nothing.
use mathlib.Core.Bool.{Bool, false, cond}
use mathlib.Core.List.{List, ◌++◌}
use mathlib.Core.Path.{◌≡◌, sym, ap, ◌∙◌}
use Prim.Native.Nat.{ℕ, ◌+◌, ◌≤◌}
use native.Mathlib.Omega.{arith}
use lib.Dec.{eqb}
use lib.ListN.{length, take, drop}
use lib.Seq.{sets, sets-eq, take_at}
use borrow.Author.Tests.{ltb-false}
use Rattle.laws.proofs.Parts.{sets_after}
use Rattle.ir.specs.Refusals.{Said}
use Rattle.stored_parts.specs.Form.{spread}
use Rattle.byte_words.specs.Words.{whole}
use Rattle.stored_parts.proofs.WordLaws.{words_long, sets_long}
use Rattle.byte_words.proofs.WordLaws.{unpacked}
use Rattle.byte_words.specs.Rooms.{Lent, lent, tight, held, packed_on}

-- the room is long enough
pub roomy : (n : ℕ) (l : Lent) → tight n l ≡ false → whole n l.bytes ≤ length l.room
roomy n l h = ltb-false _ _ h

module _ (n : ℕ) (l : Lent) {mid : List ℕ} (fits : whole n l.bytes ≤ length l.room) (e : mid ≡ sets l.room 0 (held n l)) where
  abbrev k : ℕ
  k = whole n l.bytes

  -- the call is lent the words that the bytes hold
  pub lent_words : take k mid ≡ held n l
  lent_words = unpacked n l.bytes l.room fits e

  pub still_roomy : k ≤ length mid
  still_roomy = rw (sets_long l.room 0 (held n l) e) fits

  module _ (vs : List ℕ) (m : length vs ≡ length (take k mid)) where
    left_long : length vs ≡ k
    left_long = m ∙ ap length lent_words ∙ words_long n k l.bytes

    room_after : vs ++ drop k mid ≡ sets l.room 0 vs
    room_after =
        let w = words_long n k l.bytes in
        let z : 0 + length vs ≡ k = omega (arith, left_long) in
        ap (λ (x : List ℕ). vs ++ drop k x) e
        ∙ ap (λ (x : List ℕ). vs ++ x) (sets_after (held n l) l.room 0 k (omega (arith, w)))
        ∙ sym (sets-eq vs l.room 0 (omega (arith, z, fits)) ∙ ap (λ (m : ℕ). take 0 l.room ++ vs ++ drop m l.room) z)

    -- and the bytes take what it leaves
    pub packed_after : {out : List ℕ} {done : Bool} (s : Said) → done ≡ eqb s.number 0 → out ≡ cond done (sets l.bytes 0 (spread n (take k (vs ++ drop k mid)))) l.bytes → lent out (vs ++ drop k mid) ≡ packed_on n s vs l
    packed_after {out} {done} s d p =
        let front : take k (vs ++ drop k mid) ≡ vs = take_at vs (drop k mid) k left_long in
        rw (room_after, p, d, front)
