pub mod Paths
pub mod Rows
