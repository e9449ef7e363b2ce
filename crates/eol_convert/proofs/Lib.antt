pub mod Lines
pub mod Marks
pub mod Usual
pub mod Copies
