-- The places of a list that pass a test.
pub mod Places
