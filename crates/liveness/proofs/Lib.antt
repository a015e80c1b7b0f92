pub mod MarkLaws
pub mod Single
