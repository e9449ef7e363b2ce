pub mod Words
pub mod Tail
