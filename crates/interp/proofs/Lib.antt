-- Laws of the evaluators.
pub mod AnswerLaws
pub mod AttemptLaws
pub mod OutcomeLaws
pub mod Single
