pub mod Tables
pub mod State
pub mod Refusals
pub mod Open
pub mod Calls
pub mod steps
