pub mod Turns
pub mod Puts
pub mod Digits
