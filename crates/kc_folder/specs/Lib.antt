pub mod Cuts
pub mod FolderFaults
pub mod PathsFrom
pub mod PathsRead
