pub mod AttributeFiles
pub mod Paths
pub mod Making
pub mod Seen
