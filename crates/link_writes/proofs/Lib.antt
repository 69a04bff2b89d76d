pub mod Written
pub mod First
