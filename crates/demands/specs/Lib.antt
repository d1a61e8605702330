pub mod Demand1
pub mod Reading
pub mod Demand2
pub mod Constants
pub mod Boundary
pub mod Later
pub mod OpenCount
pub mod Joining
