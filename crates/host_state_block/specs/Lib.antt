pub mod Layout
pub mod Block
pub mod Formed
pub mod Steps
pub mod Claims
