pub mod Same
pub mod ReadLaws
pub mod WriteLaws
pub mod Meanings
pub mod Claims
