pub mod Output
pub mod Theorem
pub mod Cases
pub mod Answers
pub mod Trace
