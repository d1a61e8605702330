pub mod Calling
pub mod Following
pub mod Running
pub mod Sheets
pub mod Counting
