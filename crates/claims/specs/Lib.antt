pub mod Claim
pub mod Lent
