pub mod Joints
pub mod Adding
pub mod Writes
pub mod Writable
