pub mod Lists
pub mod Cursors
pub mod Turns
pub mod Tables
pub mod Writing
pub mod Fits
pub mod Putting
pub mod Answers
pub mod Meaning
pub mod Once
pub mod Accepted
pub mod Leaving
mod Worked
