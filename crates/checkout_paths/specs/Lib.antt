-- what becomes of each path, and what was said with each driver
pub mod Prepared
pub mod Talks
pub mod Outcome
pub mod Paths
-- what the writing of the paths promises
pub mod Workers
pub mod Made
pub mod Writing
-- what its parts promise each other
pub mod Cards
pub mod Dealing
