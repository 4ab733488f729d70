pub mod Laws
pub mod Table
pub mod Counting
pub mod Sheet
