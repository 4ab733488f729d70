pub mod Player
pub mod Steps
pub mod Sheet
