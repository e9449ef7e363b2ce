pub mod Paths
pub mod Repository
pub mod Drivers
pub mod Stored
pub mod Blocks
