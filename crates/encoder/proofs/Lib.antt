pub mod Forms
pub mod Nops
pub mod Padding
pub mod Powers
pub mod Reading
