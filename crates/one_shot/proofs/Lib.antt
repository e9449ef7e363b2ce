pub mod Sessions
pub mod RunLinks
pub mod Backs
