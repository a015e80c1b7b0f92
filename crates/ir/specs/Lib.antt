-- What a program is, and what its calls promise.
pub mod Program
pub mod Refusals
pub mod Shape
pub mod WellFormed
pub mod Words
