pub mod Sittings
