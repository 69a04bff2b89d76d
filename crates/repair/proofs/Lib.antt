pub mod Bits
pub mod WalkFaults
pub mod Mended
pub mod Repairs
pub mod Taken
pub mod Right
pub mod Mending
pub mod Table
