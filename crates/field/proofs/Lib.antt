-- What callers and later requests cite of the field.
pub mod Laws
