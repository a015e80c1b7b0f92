-- The step rule.
pub mod StepRule
