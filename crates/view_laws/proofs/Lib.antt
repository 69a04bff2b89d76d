-- The laws over a view. First what a directory owns, and that what it means hangs on its entries and owned pages alone.
pub mod Owns
pub mod Frame
-- What a sound image is as facts, and what a change in one entry leaves of them.
pub mod Facts
pub mod Owners
pub mod Level
pub mod Focus
pub mod Change
pub mod Counting
pub mod FileEntry
pub mod Walks
pub mod Ways
pub mod Rows
pub mod Slots
pub mod Vacant
pub mod Shelf
-- What the calls that change something do at an entry.
pub mod Removing
pub mod Making
pub mod Writing
-- Directories that are chains of pages, and grow.
pub mod Grown
pub mod Chained
pub mod Lengthened
pub mod Ends
-- The judge: a principle of its walk, and that it decides soundness.
pub mod Comes
pub mod Judged
