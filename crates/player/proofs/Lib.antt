pub mod Asks
pub mod Most
