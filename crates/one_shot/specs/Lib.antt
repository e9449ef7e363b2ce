pub mod Commands
pub mod Onces
pub mod MemoryOnces
pub mod Works
pub mod Replies
pub mod Links
pub mod Starters
pub mod Spawners
