pub mod Says
pub mod Unnamed
