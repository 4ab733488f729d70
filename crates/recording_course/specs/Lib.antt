pub mod Course
pub mod Theorem
