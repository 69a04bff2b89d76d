-- What an allowed length and page code say in numbers, and that links, pages, count and bitmap are then apart.
pub mod Bounds
pub mod Lawful2
-- Where entries lie, and that an image of version 2 stands on a shelf: what the laws over a view ask.
pub mod Slots2
pub mod Version2
-- The new entry, read back.
pub mod NewEntry2
-- Soundness as facts, of an image and of one changed.
pub mod Facts2
-- The judge, the counts, the numbers of calls, and format.
pub mod Judged2
pub mod Counts2
pub mod Numbers2
pub mod Format2
-- Where a path leads, and what the calls that change an entry do there.
pub mod Targets2
pub mod Remove2
pub mod Lock2
pub mod Write2
-- A make: its directory grows if it is full, and then has the new entry.
pub mod Growth2
pub mod Make2
-- What version 2 owes the laws of calls, and the theorems.
pub mod Grants2
pub mod Owed2
pub mod Headline2
