pub mod Rights
pub mod Plays
pub mod Registers
pub mod Fits
pub mod Breaks
pub mod Faulted
pub mod Says
pub mod Turns
