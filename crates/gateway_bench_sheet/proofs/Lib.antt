pub mod Unfolded
pub mod Bench
pub mod Sound
