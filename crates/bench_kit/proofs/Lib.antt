mod Below
pub mod Places
