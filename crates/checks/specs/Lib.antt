pub mod Lent
pub mod Entries
pub mod steps
