pub mod Message
pub mod Cases
