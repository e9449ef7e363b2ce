pub mod Fault
pub mod Value
pub mod Number
pub mod Keys
pub mod Drivers
pub mod View
pub mod Seen
pub mod Words
