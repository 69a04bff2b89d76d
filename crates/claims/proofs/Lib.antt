pub mod Legal
pub mod Claims
pub mod Names
