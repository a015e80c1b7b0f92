pub mod ReadsLaws
pub mod Single
pub mod OrderLaws
