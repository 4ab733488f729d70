pub mod Checksum
pub mod Wide
pub mod Sheet
