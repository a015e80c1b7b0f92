-- Which nodes are emitted, who reads a node last, and which are roots.
pub mod Liveness
pub mod LiveLists
