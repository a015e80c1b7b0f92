-- The builder's calls on bytes.
pub mod Promises
