pub mod Texts
pub mod Steps
pub mod Names
pub mod Legal
pub mod Occupied
pub mod Paths
pub mod Split
