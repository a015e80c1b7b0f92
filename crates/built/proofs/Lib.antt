-- Lemmas over histories of builder calls.
pub mod NodeLaws
pub mod RootLaws
pub mod ConstantLaws
pub mod StepLaws
pub mod FreshLaws
pub mod FormedLaws
pub mod Theorems
pub mod ServesLaws
pub mod GrowthLaws
pub mod RunLaws
pub mod RoomLaws
