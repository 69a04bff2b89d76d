pub mod Owned
pub mod Check
pub mod Numbers
