pub mod Body
pub mod Walked
