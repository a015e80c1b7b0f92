pub mod WordLaws
pub mod RoomLaws
pub mod ReadingLaws
