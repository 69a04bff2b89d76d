pub mod Formats
pub mod Makes
