-- The value of each node, and what the pass over the nodes cites.
pub mod Frame
pub mod Operations
pub mod Room
pub mod Values
