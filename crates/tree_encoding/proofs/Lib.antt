pub mod OneContent
pub mod Encoded
pub mod Ascii
pub mod Chunks
pub mod Fronts
mod Names
