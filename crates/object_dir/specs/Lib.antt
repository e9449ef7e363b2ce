pub mod Object
pub mod Spelling
pub mod Taking
