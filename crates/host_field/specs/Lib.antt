-- The definitions of the field's calls.
pub mod FieldCalls
