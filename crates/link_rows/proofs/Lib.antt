pub mod Rows
pub mod Readings
pub mod Steps
pub mod Packs
