pub mod Numbers
pub mod Hex
pub mod Places
pub mod Claims
