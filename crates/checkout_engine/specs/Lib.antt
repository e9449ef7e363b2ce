-- what `run` promises
pub mod Ends
pub mod Checkout
pub mod Said
pub mod Commands
pub mod Headline
pub mod Shown
pub mod Small
pub mod Rehearsed
pub mod Report
pub mod Complete
pub mod Alike
pub mod SameFaults
pub mod Given
-- what its parts promise each other
pub mod PlannedPaths
pub mod Ending
