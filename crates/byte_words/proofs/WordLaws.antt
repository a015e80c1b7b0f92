-- Words unpacked stand at the front of their room.
-- Assumes nothing.
use mathlib.Core.List.{List}
use mathlib.Core.Path.{◌≡◌, sym, ap, ◌∙◌}
use Prim.Native.Nat.{ℕ, ◌≤◌}
use native.Mathlib.Omega.{arith}
use lib.ListN.{length, take, drop}
use lib.Seq.{sets, length-take-le}
use Rattle.laws.proofs.Parts.{sets_here}
use Rattle.stored_parts.proofs.WordLaws.{words_long, drop_none}
use Rattle.byte_words.specs.Words.{whole, words_in}

-- the words unpacked stand at the front of the room
pub unpacked : (n : ℕ) (bytes to : List ℕ) {new : List ℕ} → whole n bytes ≤ length to → new ≡ sets to 0 (words_in n bytes) → take (whole n bytes) new ≡ words_in n bytes
unpacked n bytes to {new} h e =
    let k = words_long n (whole n bytes) bytes in
    let t : take (length (words_in n bytes)) (drop 0 (sets to 0 (words_in n bytes))) ≡ words_in n bytes = sets_here to 0 (words_in n bytes) (omega arith) in
    ap (take (whole n bytes)) e ∙ rw (k, drop_none (sets to 0 (words_in n bytes))) at t

-- the fronts' lengths
pub front_long : (k : ℕ) (l : List ℕ) → k ≤ length l → k ≡ length (take k l)
front_long k l h = sym (length-take-le k l h)
