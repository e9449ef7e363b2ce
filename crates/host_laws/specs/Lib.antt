pub mod HostTalks
pub mod Awaiting
pub mod Exchanges
pub mod OnceTalks
pub mod KeptTalks
pub mod SingleRuns
pub mod RunsAlike
pub mod RunsGive
