pub mod Sending
pub mod Rows
pub mod Carrying
