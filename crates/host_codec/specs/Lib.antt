pub mod Codec
pub mod Claims
