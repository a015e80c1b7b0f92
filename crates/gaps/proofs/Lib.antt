pub mod GapLaws
pub mod Single
