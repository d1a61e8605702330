pub mod Run
pub mod steps
