pub mod Costs
pub mod Delta
pub mod Numbers
