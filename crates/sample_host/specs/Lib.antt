pub mod Capitals
pub mod Modes
pub mod Serving
