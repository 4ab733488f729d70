pub mod Slots
pub mod Found
pub mod Places
pub mod Formed
pub mod Outcomes
pub mod Claims
