pub mod Format
pub mod Reading
pub mod Seen
pub mod Stops
pub mod Walk
pub mod Words
