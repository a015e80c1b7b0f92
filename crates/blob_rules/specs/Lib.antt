-- What a blob is, and what the check asks of one node and one root.
pub mod Blob
pub mod Check
pub mod Marks
