pub mod Answer
pub mod Drafts
pub mod IndexRows
