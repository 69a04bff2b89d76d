pub mod Stops
pub mod Room
