pub mod Owner
pub mod Demand
pub mod Visit
