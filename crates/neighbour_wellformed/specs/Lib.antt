pub mod Formed
pub mod ByState
