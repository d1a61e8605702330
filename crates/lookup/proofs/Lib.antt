pub mod Index
pub mod Partition
