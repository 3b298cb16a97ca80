pub mod Places
pub mod Worlds
