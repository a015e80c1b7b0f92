-- Laws of programs.
pub mod OrderLaws
pub mod ProgramLaws
pub mod RefusalLaws
pub mod Single
pub mod VarLaws
pub mod WellFormedLaws
