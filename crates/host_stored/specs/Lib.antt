-- The definitions of the calls on form A.
pub mod StoredCalls
