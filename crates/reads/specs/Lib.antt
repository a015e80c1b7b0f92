-- Which trace columns a program reads in the next row.
pub mod Marks
pub mod Reads
