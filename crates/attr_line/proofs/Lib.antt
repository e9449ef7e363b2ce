pub mod Places
pub mod Cuts
pub mod Quoted
pub mod Taking
