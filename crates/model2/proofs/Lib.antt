-- The definitions computed: what all rows have in common, the images, and the rows that refuse this crate's must-fail edits. The tables of every theme
-- stand in the crate `tables2`.
pub mod Run2
pub mod Desk2
pub mod Rows
