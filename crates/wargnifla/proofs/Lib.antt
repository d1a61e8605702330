pub mod Crossing
pub mod Counts
pub mod Sequences
