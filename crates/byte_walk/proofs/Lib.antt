pub mod WalkLaws
pub mod Single
