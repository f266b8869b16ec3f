pub mod Inputs
pub mod Objects
