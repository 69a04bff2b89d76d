pub mod Found
pub mod Checked
