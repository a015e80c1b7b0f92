-- Laws of the builder's calls on bytes.
pub mod PromiseLaws
pub mod Single
