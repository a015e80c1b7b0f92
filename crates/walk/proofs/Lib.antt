-- Laws of the walk.
pub mod NodeLaws
pub mod RoomLaws
pub mod RowLaws
pub mod Single
pub mod WalkLaws
