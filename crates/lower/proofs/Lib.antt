-- Lemmas of lowering.
pub mod AnswerLaws
pub mod EndLaws
pub mod Single
