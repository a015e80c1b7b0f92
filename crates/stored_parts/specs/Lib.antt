-- Stored form A, and whether tables and rooms are long enough.
pub mod Form
pub mod Rooms
