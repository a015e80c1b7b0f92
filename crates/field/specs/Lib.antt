-- What the contracts of the field cite.
pub mod Base
