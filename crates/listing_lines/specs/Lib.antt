pub mod Lines
pub mod Steps
pub mod Listing
pub mod Cases
