-- Lemmas of the theorem.
pub mod LeafLaws
pub mod PassLaws
pub mod PutLaws
pub mod QuietLaws
pub mod SameLaws
pub mod SimLaws
pub mod Theorem
pub mod ValueLaws
