pub mod ArithLaws
pub mod CellLaws
pub mod LeafLaws
pub mod LoadLaws
pub mod RootLaws
