pub mod Parts
pub mod Words
pub mod Answers
