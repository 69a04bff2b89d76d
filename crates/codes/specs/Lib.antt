pub mod Codes
pub mod Outs
