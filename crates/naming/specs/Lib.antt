pub mod Naming
pub mod steps
