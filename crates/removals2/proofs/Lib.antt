-- What each call answers and leaves.
pub mod Removes
