-- The definitions of the builder's calls.
pub mod BuilderCalls
