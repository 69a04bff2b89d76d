pub mod Windows
pub mod Digits
pub mod Pieces
