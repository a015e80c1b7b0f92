-- The proofs of the builder's calls.
pub mod BuilderSingle
