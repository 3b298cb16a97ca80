pub mod Programs
pub mod Timed
pub mod Ceiling
