-- Calls on wide images, and a page above number 255 that is taken.
pub mod WideCalls
pub mod Taken
