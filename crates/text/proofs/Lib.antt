pub mod Fields
pub mod Lines
pub mod Reading
pub mod Filling
