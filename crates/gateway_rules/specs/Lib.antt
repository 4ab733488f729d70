pub mod Home
pub mod Number
pub mod Ruling
pub mod Seconds
pub mod Carried
pub mod Calls
