pub mod Digits
pub mod Fronts
pub mod PrefixFree
pub mod Pieces
pub mod NoPacket
pub mod Cuts
pub mod Spelled
