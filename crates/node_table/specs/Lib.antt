-- The definitions of nodes in lent words and their hash places.
pub mod Words
pub mod Hashing
pub mod Table
pub mod Tests
pub mod Puts
pub mod Model
