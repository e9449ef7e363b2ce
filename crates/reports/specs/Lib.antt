pub mod Fields
pub mod FirstRows
pub mod Forms
pub mod Fronts
pub mod Lines
pub mod Objects
pub mod Written
