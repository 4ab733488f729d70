pub mod Canonical
pub mod Trip
