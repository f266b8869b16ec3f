pub mod Answer
pub mod Apart
pub mod ChangedValues
pub mod Impossible
pub mod InTheWay
pub mod Needed
pub mod Question
