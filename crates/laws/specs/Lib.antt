-- What several crates define by.
pub mod Algebra
pub mod Folds
pub mod Lists
pub mod Maps
pub mod Options
