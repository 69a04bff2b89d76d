pub mod Copied
pub mod Searches
pub mod Plain
pub mod Lists
