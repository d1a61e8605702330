pub mod Calls
pub mod Sequences
pub mod Sound
pub mod View
pub mod Open
pub mod steps
