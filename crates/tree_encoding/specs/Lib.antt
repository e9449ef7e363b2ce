pub mod Named
pub mod Encode
pub mod Front
