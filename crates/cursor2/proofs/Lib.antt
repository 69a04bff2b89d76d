-- A cursor's steps, and a search by a cursor.
pub mod Turns
pub mod Seeking
-- The same in the words of a view.
pub mod Views
