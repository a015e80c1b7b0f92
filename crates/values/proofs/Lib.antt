-- Laws of values and of the pass over the nodes.
pub mod ClassLaws
pub mod OperationLaws
pub mod ReadyLaws
pub mod RunLaws
pub mod ValueLaws
