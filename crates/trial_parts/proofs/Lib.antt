pub mod StepLaws
pub mod TrialLaws
