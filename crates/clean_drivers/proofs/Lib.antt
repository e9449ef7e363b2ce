mod Commands
mod Turns
mod Outputs
pub mod Places
