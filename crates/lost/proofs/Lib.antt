pub mod Lost
pub mod Owned
pub mod Decides
