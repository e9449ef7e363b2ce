pub mod Sources
pub mod Causes
pub mod RefusalText
pub mod Reading
pub mod PlannedIndex
pub mod CutShort
