pub mod Packets
pub mod Reading
pub mod Reader
pub mod Spelling
