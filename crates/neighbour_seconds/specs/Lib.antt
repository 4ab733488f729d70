pub mod Seconds
pub mod Claims
pub mod Cases
