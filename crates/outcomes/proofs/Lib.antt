-- The exit of a `?`.
pub mod Exits
