pub mod Classes
pub mod Rows
