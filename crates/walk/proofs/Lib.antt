pub mod Entries
pub mod Parents
