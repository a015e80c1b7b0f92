pub mod ListLaws
pub mod Single
