-- The proofs of the field's calls.
pub mod FieldCallLaws
pub mod Single
