pub mod Table
pub mod Tick
pub mod Intrinsics
pub mod Step
pub mod Laws
pub mod Sheet
