pub mod Endings
pub mod FaultNumbers
pub mod SearchEndings
pub mod UnreadWords
