pub mod Answered
pub mod Keeping
pub mod Standing
pub mod Accepted
pub mod Aligning
pub mod Appends
pub mod Scan
pub mod Below
