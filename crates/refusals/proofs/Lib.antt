pub mod Variants
pub mod Chains
