pub mod Widths
pub mod Exchange
