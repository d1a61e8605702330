pub mod Pieces
pub mod Symbols
pub mod Join
pub mod Whole
pub mod steps
