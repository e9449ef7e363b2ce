pub mod LeafPlaces
pub mod Pasts
pub mod Paths
pub mod Places
pub mod Starts
