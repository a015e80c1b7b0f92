-- The proofs of the calls on form A.
pub mod StoredCallLaws
