pub mod Inputs
pub mod Outputs
pub mod Searches
pub mod Sits
