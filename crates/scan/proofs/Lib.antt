-- Lemmas of liveness and scan.
pub mod LiveLaws
pub mod ReadyLaws
pub mod ScanLaws
pub mod SlotLaws
pub mod StepLaws
pub mod WordLaws
