pub mod Turns
pub mod Names
pub mod Places
pub mod Kept
