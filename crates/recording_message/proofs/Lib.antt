pub mod Laws
pub mod Readings
pub mod Unfolded
pub mod Cases
