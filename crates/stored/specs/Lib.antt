-- What writing and reading form A answer.
pub mod Answer
