pub mod CheckReport
pub mod FindingPlaces
pub mod ReportLines
pub mod TreeReport
pub mod UnusedVariables
