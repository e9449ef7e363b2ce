pub mod Text
pub mod Pairs
pub mod Line
pub mod File
pub mod Seen
