pub mod GraphLaws
pub mod ListLaws
pub mod MarkLaws
pub mod RoomLaws
pub mod RowLaws
pub mod SearchSteps
pub mod UseCounts
pub mod UsersSteps
