-- The statements that join lowering, check, walk and evaluator; the marked cases; program E lowered.
pub mod Faithful
pub mod Marked
pub mod ExampleE
