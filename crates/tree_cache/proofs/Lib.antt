mod Extended
pub mod Parts
