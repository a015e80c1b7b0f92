-- A call that answers as the library's function does.
-- Assumes nothing.
use Rattle.ir.specs.declared.refusal.Refusal.{Refusal}
use Rattle.std.specs.Prelude.{ℕ, ◌≡◌, Result}
use Rattle.ir.specs.Refusals.{said_of_outcome}
use Rattle.host_answer.specs.Answer.{answer_of}

-- the call answers as the library's function does, whose promise is P of its outcome
pub record Called (P : Result (Unit {0}) Refusal → Type 0) (answer : ℕ) : Type 0 where
  pub outcome : Result (Unit {0}) Refusal
  pub promised : P outcome
  pub answered : answer ≡ answer_of (said_of_outcome outcome)
