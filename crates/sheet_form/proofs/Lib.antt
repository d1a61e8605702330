pub mod Forming
pub mod Parts
pub mod Bounds
