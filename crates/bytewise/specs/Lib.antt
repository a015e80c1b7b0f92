-- Calls on bytes.
pub mod Checking
pub mod Lowering
