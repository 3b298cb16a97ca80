pub mod Tables
pub mod Examples
