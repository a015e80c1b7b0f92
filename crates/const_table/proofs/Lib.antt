pub mod PositionLaws
