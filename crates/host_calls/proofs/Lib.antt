pub mod Lent
pub mod Rows
pub mod Sending
pub mod Events
pub mod Messages
