-- The listing of a stored blob, as text.
pub mod Listing
pub mod ExampleE
