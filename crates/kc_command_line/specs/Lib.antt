pub mod Hints
pub mod MakeText
pub mod Targets
pub mod VariableLines
pub mod Variables
