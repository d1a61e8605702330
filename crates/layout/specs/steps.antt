pub mod Layout
pub mod Targets
