-- What the calls promise.
pub mod LowerCalls
pub mod ProgramCalls
