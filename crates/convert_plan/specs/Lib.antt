pub mod Conversion
pub mod Prepared
pub mod Card
