pub mod Tidy
pub mod Propose
pub mod Demand
