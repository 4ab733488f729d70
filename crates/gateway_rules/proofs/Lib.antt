pub mod Number
pub mod Rulings
pub mod Sends
pub mod Checks
pub mod Seconds
