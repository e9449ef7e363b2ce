-- what becomes of the drivers and of the index
pub mod Talks
pub mod Indexes
pub mod InTurn
pub mod Report
pub mod Rows
-- what `checkin` promises
pub mod Words
pub mod Ends
-- what its parts promise each other
pub mod KeptIndex
pub mod Ending
-- what two check-ins have in common
pub mod EqualTurns
