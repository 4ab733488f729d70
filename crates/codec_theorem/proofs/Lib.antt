pub mod Fixed
pub mod Exchange
