-- Document 01's program E, evaluated.
pub mod ExampleE
