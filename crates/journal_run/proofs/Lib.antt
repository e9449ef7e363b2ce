pub mod Ends
pub mod Legal
pub mod Starts
