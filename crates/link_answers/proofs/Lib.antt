-- The exit of a `?` on a judging.
pub mod Exits
