pub mod Cases
pub mod Dollars
pub mod Keywords
