pub mod LeftOut
pub mod Files
pub mod Named
pub mod Numbered
pub mod States
pub mod Whole
mod Closed
