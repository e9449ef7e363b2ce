pub mod Chains
pub mod Decisions
pub mod Frames
pub mod Lists
pub mod Maps
pub mod Readings
