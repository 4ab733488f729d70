pub mod Numbers
pub mod Buffer
pub mod Written
