-- The definitions of answers as numbers.
pub mod Answer
pub mod Numbers
pub mod Called
