pub mod Delays
pub mod Pipes
