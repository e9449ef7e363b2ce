pub mod Words
pub mod Findings
pub mod Rehearsed
pub mod Journals
pub mod Ends
pub mod Laws
