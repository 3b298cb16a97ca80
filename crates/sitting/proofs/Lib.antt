pub mod Settles
pub mod Endings
pub mod Lengths
pub mod Sits
pub mod Inputs
