-- What the walk of a row reads, computes and writes: cells, operands in slots, arithmetic, roots.
pub mod Slots
pub mod Steps
pub mod Trace
