pub mod Pull
pub mod Claim
pub mod Demand
