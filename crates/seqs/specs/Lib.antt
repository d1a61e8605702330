pub mod Counting
pub mod Every
pub mod Over
pub mod Pick
