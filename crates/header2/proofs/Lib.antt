pub mod Sizes
pub mod Headers
