pub mod Lowest
pub mod Words
