-- The answers told apart.
pub mod Injective
