pub mod Gives
pub mod Finds
pub mod Named
