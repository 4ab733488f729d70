pub mod Laws
pub mod Wide
pub mod Sheet
