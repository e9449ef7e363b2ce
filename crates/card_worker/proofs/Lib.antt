pub mod TurnSteps
pub mod WorkTurns
pub mod FewLemmas
pub mod HeldCards
pub mod Digests
pub mod SameCards
pub mod Hands
