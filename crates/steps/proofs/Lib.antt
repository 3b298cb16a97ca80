mod Cuts
mod Turns
mod Inversions
mod Repeats
mod Again
