pub mod Held
pub mod Left
