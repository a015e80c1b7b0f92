-- What a walk over a blob leaves.
pub mod Walk
