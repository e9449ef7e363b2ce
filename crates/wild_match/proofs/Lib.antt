pub mod Folders
pub mod Forms
pub mod LastPart
pub mod Pairs
pub mod Parts
pub mod ReadMembers
pub mod ReadPieces
pub mod Splits
