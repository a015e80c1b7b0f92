-- What lowering makes, says and leaves, and the functions that write it.
pub mod Lower
pub mod Inner
pub mod Answer
