-- What evaluators refuse, by number and place, and where they write what they find.
pub mod Evals
pub mod Evaluation
pub mod Attempt
pub mod Writes
