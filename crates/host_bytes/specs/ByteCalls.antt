-- What the call that lowers to bytes promises: the answer as one number, and each lent word and byte.
-- Assumes nothing.
use Rattle.ir.specs.declared.refusal.Refusal.{Refusal}
use Rattle.std.specs.Prelude.{◌≡◌, ℕ, Result}
use Rattle.stored.specs.Answer.{said_of_stored}
use Rattle.host_answer.specs.Answer.{answer_of, value_on_done}

-- the call answers as `lower_stored` does, whose promise is P of its outcome; the file's length is written on 0 alone
pub record CalledStored (P : Result ℕ Refusal → Type 0) (answer length length' : ℕ) : Type 0 where
  pub outcome : Result ℕ Refusal
  pub promised : P outcome
  pub answered : answer ≡ answer_of (said_of_stored outcome)
  pub written : length' ≡ value_on_done (said_of_stored outcome) 0 length
