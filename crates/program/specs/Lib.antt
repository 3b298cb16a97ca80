pub mod Program
pub mod Reading
pub mod Refusals
pub mod Source
pub mod Tables
pub mod Fields
pub mod Faults
pub mod Words
