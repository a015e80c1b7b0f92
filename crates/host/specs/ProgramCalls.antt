-- What the calls on programs promise: the answer as one number, and each lent word.
-- Assumes nothing.
use Rattle.ir.specs.declared.refusal.Refusal.{Refusal}
use Rattle.std.specs.Prelude.{ℕ, ◌≡◌, Result}
use Rattle.reads.specs.Reads.{said_of_columns}
use Rattle.evaluation.specs.Evaluation.{said_of_evaluated}
use Rattle.host_answer.specs.Answer.{answer_of, value_on_done}

-- as `Called` of host_answer, of a call that hands a base value out
pub record CalledBase (P : Result ℕ Refusal → Type 0) (answer old new : ℕ) : Type 0 where
  pub outcome : Result ℕ Refusal
  pub promised : P outcome
  pub answered : answer ≡ answer_of (said_of_evaluated outcome)
  pub written : new ≡ value_on_done (said_of_evaluated outcome) 0 old

-- the same of a call that hands a count of columns out
pub record CalledReads (P : Result ℕ Refusal → Type 0) (answer old new : ℕ) : Type 0 where
  pub outcome : Result ℕ Refusal
  pub promised : P outcome
  pub answered : answer ≡ answer_of (said_of_columns outcome)
  pub written : new ≡ value_on_done (said_of_columns outcome) 0 old
