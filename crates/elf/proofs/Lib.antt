pub mod Listed
pub mod Entries
pub mod Targets
pub mod Answers
pub mod RoundTrip
pub mod Addends
mod Worked
pub mod Untyped
