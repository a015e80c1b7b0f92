-- Lemmas that several crates cite.
pub mod Blocks
pub mod Cases
pub mod Elementwise
pub mod Folds
pub mod Maps
pub mod Options
pub mod Parts
pub mod Tabulate
pub mod Tests
