-- Lemmas of the calls.
pub mod BlobSingle
pub mod LowerCallLaws
pub mod PlaceLaws
pub mod ProgramCallLaws
pub mod ProgramSingle
