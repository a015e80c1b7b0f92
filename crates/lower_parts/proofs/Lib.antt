pub mod OutLaws
pub mod AgreeLaws
pub mod BlobLaws
