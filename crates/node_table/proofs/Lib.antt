-- The proofs of nodes in lent words and their hash places.
pub mod Laws
pub mod Places
pub mod Pushes
pub mod Ring
pub mod Seeks
pub mod Single
