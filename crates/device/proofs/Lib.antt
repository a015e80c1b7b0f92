-- Laws of blobs.
pub mod CallLaws
pub mod Exact
pub mod Single
pub mod Theorem
