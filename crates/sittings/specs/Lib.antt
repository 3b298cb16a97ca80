pub mod Numerals
pub mod Cases
pub mod Batches
