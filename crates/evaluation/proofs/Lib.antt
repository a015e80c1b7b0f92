-- Laws of what evaluators refuse and write.
pub mod RefuseLaws
pub mod EvalLaws
pub mod OrderLaws
