-- The builder's calls on bytes, as one static library.
pub mod BuilderByteCalls
