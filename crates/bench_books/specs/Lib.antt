pub mod Pairs
pub mod Pools
