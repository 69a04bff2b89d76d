pub mod Claims
pub mod Pages
pub mod Stores
