pub mod Depth
pub mod Paths
pub mod Loading
pub mod Whole
