pub mod Formats
-- A directory with room for an entry, and a make.
pub mod Rooms
pub mod Makes
