pub mod Causes
pub mod CleanLines
pub mod CleanTalks
pub mod EqualAnswers
pub mod Singles
pub mod Drivers
