pub mod ReportLaws
pub mod SaidLaws
pub mod UnusedLaws
