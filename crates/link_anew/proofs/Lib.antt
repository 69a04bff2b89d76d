pub mod InTurn
pub mod Freed
pub mod InPlace
