-- The laws of version 1's calls. First what a directory is: its entries, what it owns, and that it hangs on these bytes alone.
pub mod Entries
pub mod Owns
pub mod Frame
-- What a sound image is as facts, and what a change in one entry leaves of them.
pub mod Facts
pub mod Level
pub mod Focus
pub mod Counting
pub mod Walks
pub mod Slots
pub mod Vacant
pub mod Shelf
pub mod NewEntry
-- Each call that changes something.
pub mod Remove
pub mod Make
pub mod Format
pub mod Write
pub mod Lock
-- The judge, the lines of refusals, and one call on any image.
pub mod Judged
pub mod Lines
pub mod Broken
pub mod Grants
pub mod Names
pub mod Numbers
pub mod Owed
pub mod Steps
-- Lists of calls, and the theorems.
pub mod Lists
pub mod Passed
pub mod Twice
pub mod Exact
pub mod Stays
pub mod Headline
pub mod Bytewise
pub mod Listings
