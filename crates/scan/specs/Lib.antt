-- How lent lists stand for the scan node by node.
pub mod Arrays
