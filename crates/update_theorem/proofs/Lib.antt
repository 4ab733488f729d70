pub mod Readings
pub mod Octets
pub mod Plain
pub mod Sent
pub mod Grouped
pub mod Trip
pub mod Examples
