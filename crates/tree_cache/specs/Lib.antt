pub mod Folders
pub mod Extension
