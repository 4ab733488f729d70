pub mod Record
pub mod Rules
pub mod Laws
pub mod Sheet
