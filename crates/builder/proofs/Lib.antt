pub mod AnswerLaws
pub mod RootLaws
pub mod ConstLaws
pub mod OrderLaws
pub mod Single
