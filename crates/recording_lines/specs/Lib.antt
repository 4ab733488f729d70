pub mod Lines
pub mod Meant
pub mod Steps
pub mod Claims
pub mod Cases
