pub mod Graph
pub mod OrderFault
pub mod Rows
pub mod Search
pub mod Users
