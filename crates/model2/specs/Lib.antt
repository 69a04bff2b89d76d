-- Version 2 of the format (paper 02 §12; document 001, second edition), read into the `View` that the crate `model` has for every version: what is
-- said there of entries, directories, trees and walks is said of `view2 b` too. What is said there of calls is said of the `Version` that is `v2`. No code and
-- no promise cites it yet.
--
-- Words and units are those of `model`. New:
--   page code         byte 6: pages have 256, 512 or 1,024 bytes
--   table             the pages behind page 0 in which the links stand; with page 0 they are the pages set aside
--   place of an entry the page that it stands on, and its number there from 0; on page 0 the root's first entry is number 0
-- A directory, the root too, is named by its first page; it has the pages from there on by their links, to link 0.
pub mod Layout
pub mod Entry
pub mod Version2
pub mod Format
pub mod Calls
