pub mod CallLaws
pub mod Theorems
