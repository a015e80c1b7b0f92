-- The mixed hash of a node, and where its lookup starts. Over memory that builder calls made,
-- nothing but the speed of a lookup hangs on it.
-- Assumes nothing.
use Rattle.std.specs.Prelude.{ℕ, ◌+◌, ◌*◌, ◌/◌, ◌%◌, ◌^◌}
use Rattle.ir.specs.Words.{Node}

-- a word taken in
abbrev pub scattered : ℕ → ℕ → ℕ
scattered h v = ((h + v) % 2 ^ 32 * 2654435761) % 4294967296

-- and its high bits brought down
unfoldable pub mixed : ℕ → ℕ → ℕ
mixed h v = (scattered h v + scattered h v / 32768) % 2 ^ 32

-- the hash of a node: dim, tag and operands, one after the other
unfoldable pub hash_of : Node → ℕ
hash_of w = mixed (mixed (mixed w.dim w.tag) w.x) w.y

-- where a lookup starts, of so many places: the calls take any such rule, and the code has this one
abbrev pub Start : Type 0
Start = ℕ → Node → ℕ

-- the code's rule: the hash, by the number of places
abbrev pub start_of : Start
start_of k w = hash_of w % k
