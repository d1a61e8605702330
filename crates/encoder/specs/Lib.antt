pub mod Intel
pub mod Nops
pub mod Padding
