-- A walk along the names of a path, and what a path of one byte or more is.
pub mod Parents
