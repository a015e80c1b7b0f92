-- The builder's definitions.
pub mod Answers
pub mod Calls
pub mod Roots
pub mod Consts
