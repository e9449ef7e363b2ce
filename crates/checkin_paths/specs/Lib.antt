-- the outside of a check-in
pub mod Outside
pub mod Memory
-- what becomes of each path
pub mod Paths
pub mod CleanedFiles
pub mod Fates
pub mod Outcomes
-- what the reading of the paths and the look at them promise
pub mod ReadPaths
pub mod KeptPaths
-- what its parts promise each other
pub mod PlannedWays
pub mod Looks
-- what comes back unchanged
pub mod BackAgain
