pub mod CheckLaws
pub mod MarkLaws
