pub mod Remark
pub mod Repair
pub mod Demand
pub mod Taken
