pub mod Bounds
pub mod Counting
pub mod Given
pub mod TriSets
