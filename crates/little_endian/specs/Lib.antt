-- Numbers as little-endian bytes.
pub mod Bytes
