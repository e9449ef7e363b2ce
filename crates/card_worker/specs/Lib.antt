pub mod Writing
pub mod Turns
pub mod Working
pub mod Fews
pub mod Holding
