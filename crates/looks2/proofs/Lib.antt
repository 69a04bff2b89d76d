-- What each call says.
pub mod Verdicts
pub mod Finds
