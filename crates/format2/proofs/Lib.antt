pub mod Formats2
