pub mod Lists
pub mod Runs
pub mod Claims
pub mod Loops
pub mod Stores
pub mod Order
pub mod Alike
