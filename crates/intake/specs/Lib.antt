pub mod Numbers
pub mod Serving
