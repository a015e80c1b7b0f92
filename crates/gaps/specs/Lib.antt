-- The report of constraints that have no root.
pub mod Gaps
