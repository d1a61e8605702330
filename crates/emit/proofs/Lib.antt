pub mod Jumps
pub mod Fields
pub mod Turns
pub mod Runs
