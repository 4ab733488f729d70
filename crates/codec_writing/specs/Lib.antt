pub mod Octets
pub mod Room
