pub mod Boundary
pub mod Sequences
