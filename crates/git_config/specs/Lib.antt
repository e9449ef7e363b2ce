pub mod Text
pub mod Header
pub mod Value
pub mod Reading
pub mod Seen
pub mod Words
pub mod Spelling
