pub mod ListLaws
pub mod SlotLaws
pub mod Finding
pub mod Checked
pub mod FormedLaws
pub mod Theorems
pub mod OutcomeLaws
