pub mod Theorems
pub mod Sends
pub mod Unfolded
pub mod Sheet
