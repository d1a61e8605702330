pub mod Aligned
pub mod Below
pub mod Count
