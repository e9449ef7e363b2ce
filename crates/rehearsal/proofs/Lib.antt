pub mod Sorted
pub mod Names
pub mod Entries
pub mod Whole
pub mod Storing
pub mod Spelled
pub mod Blocks
