-- Lemmas of the calls on bytes.
pub mod AnswerLaws
pub mod Single
