pub mod Narrow
pub mod Fields
pub mod Refused
pub mod Lent
pub mod Theorem
