-- Laws of answers as numbers.
pub mod ValueLaws
