mod Pairing
mod Working
