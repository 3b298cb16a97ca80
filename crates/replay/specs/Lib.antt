pub mod Playing
pub mod Fields
pub mod Bounded
pub mod Faults
pub mod Written
pub mod Notices
pub mod Words
pub mod Turns
