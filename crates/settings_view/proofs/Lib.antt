pub mod Digits
pub mod Last
pub mod Drafts
pub mod Rising
