-- The laws of the functions, and that every sound image gives what they ask: first of a search, then by function.
pub mod Entries
pub mod Removals
pub mod NewBytes
pub mod Makes
