-- Words in little-endian bytes, taken out of lent bytes and put back.
pub mod Words
pub mod Rooms
pub mod Reading
