pub mod Blocks
pub mod Writable
pub mod Claims
pub mod Steps
