pub mod Text
pub mod Claims
pub mod Steps
pub mod Writer
