pub mod Classes
pub mod Compiled
pub mod Fits
pub mod Members
pub mod Pieces
pub mod Steps
