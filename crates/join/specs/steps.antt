pub mod Within
pub mod Asking
pub mod Tables
pub mod Writes
