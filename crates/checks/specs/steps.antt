pub mod Fields
pub mod Handed
pub mod Search
