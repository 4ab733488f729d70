pub mod Same
pub mod Cases
pub mod Sheet
