pub mod Laws
pub mod Words
pub mod Bound
pub mod Calls
