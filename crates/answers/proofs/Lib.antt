-- What is left of a call at the place that its path leads to; and the answers told apart.
pub mod Files
pub mod Injective
