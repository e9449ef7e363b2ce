pub mod Action
pub mod Content
pub mod Looks
pub mod Windows
