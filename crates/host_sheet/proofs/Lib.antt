pub mod Unfolded
pub mod Sheet
