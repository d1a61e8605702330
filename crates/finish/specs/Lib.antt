pub mod Refusals
pub mod Finish
pub mod steps
