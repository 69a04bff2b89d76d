-- An entry's bytes computed.
pub mod Computed
-- An entry's bytes put.
pub mod RowBytes
