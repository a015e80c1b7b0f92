-- What a call says as one number, and the words that it writes on 0 alone.
-- Assumes nothing.
use Rattle.std.specs.Prelude.{cond, ℕ, ◌+◌, ◌*◌, ◌%◌, eqb, get_or}
use Rattle.ir.specs.Refusals.{Said}

-- the number, and 256 times the place; a place has 48 bits here, and every one fits
abbrev pub answer_of : Said → ℕ
answer_of s = s.number + 256 * (s.place % 281474976710656)

-- value k of the answer is written on 0 alone
abbrev pub value_on_done : Said → ℕ → ℕ → ℕ
value_on_done s k old = cond (eqb s.number 0) (get_or s.values k 0) old
