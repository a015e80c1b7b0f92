-- Laws of stored form A.
pub mod AnswerLaws
pub mod FormLaws
pub mod PartLaws
pub mod RoundLaws
pub mod Single
pub mod Theorem
