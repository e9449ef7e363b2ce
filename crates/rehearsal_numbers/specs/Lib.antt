pub mod Contents
pub mod Plans
pub mod Lines
