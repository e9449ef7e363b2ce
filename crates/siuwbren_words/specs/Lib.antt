pub mod Parser
pub mod Values
pub mod Asked
