pub mod Trace
pub mod Steps
pub mod Cases
