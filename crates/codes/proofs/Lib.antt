pub mod Fits
pub mod Codes
