-- The builder as the Rust has it, and histories of calls.
pub mod Draft
pub mod Memory
pub mod History
pub mod Serves
pub mod Growth
pub mod Runs
pub mod ExampleE
