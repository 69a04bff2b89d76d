-- The specification: what a reader must believe, in the order of document 01, with the requests of paper 02 that are named where they count.
-- It rests on the crate `volume`, which says how pages are taken, linked and given back in any image; `Layout` says where version 1 keeps them.
-- An image is read once, into a `View`. What is said of entries, directories and walks is said of a view v; what is said of a whole image of version 1, of
-- its bytes b, whose view is `view b`.
-- What is said of calls is said once for every version (paper 02 §12): `EffectOf`, `RefusalOf`, `MeaningOf` and `DemandsOf` of a `Version` w. `Effect`,
-- `Refusal`, `Meaning` and `Demands` have the names for version 1, `v1`, at which each computes to what document 01 says.
--
-- Words. The paper's word stands left where ours is another one.
--   record            file: an entry with a name, a date and a byte string
--   drawer            directory: a row of entries, 6 in the root and 8 in any other
--   slot              entry: 32 bytes of a directory; its number counts from 0 within the directory
--   link              the first byte of a file's page: the number of the page that follows, 0 for none
--   chain             the pages of a file, from the start page on by their links
--   mark              a page's bit in the bitmap, 1 if it is allocated
--   owner mark        the judge's, one a page: 1 once an earlier step owned it
--   N                 page_count: the number of pages of an image
--   k                 pages_for: the number of pages of a file of some size
--   plain tree        Tree: N and the root's row
--   reader's buffer   what a read is handed to copy into; a store is lent one for the page (paper 02 §11)
-- Units. A page is named by its number, counted from 0. A position is a byte of the image, counted from 0: page p begins at position
-- 256 · p. An entry is named by the position of its first byte, a directory by the number of its page, the root by 0. A place in a file
-- is a byte of its content, counted from 0, and a place in a path a byte of the path.
pub mod Layout
pub mod Name
pub mod Date
pub mod Entry
pub mod Numbers
pub mod View
pub mod Version1
pub mod Sound
pub mod Judge
pub mod Tree
pub mod Path
pub mod Image
pub mod Walk
pub mod EffectOf
pub mod Effect
pub mod Store
pub mod Call
pub mod Version
pub mod RefusalOf
pub mod Refusal
pub mod MeaningOf
pub mod Meaning
pub mod Touched
pub mod DemandsOf
pub mod Demands
pub mod Text
pub mod Listing
