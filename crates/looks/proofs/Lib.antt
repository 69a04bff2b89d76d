pub mod Verdicts
pub mod Finds
