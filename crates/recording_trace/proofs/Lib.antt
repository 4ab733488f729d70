pub mod Laws
pub mod Unfolded
pub mod Cases
