-- Version 1 among the geometries.
pub mod Version1
-- Small facts of names and directories that several crates ask.
pub mod Bounds
-- The specification computed: lists of calls run on real images by the definitions, and what they must give. Read in this order. The tables of
-- document 01 and of every theme stand in the crate `tables`; here is what refuses a wrong definition in few rows.
pub mod Run
pub mod Desk
pub mod Rows
-- Directories that grow, as they do in version 2.
pub mod Growth
-- Which bytes calls may change.
pub mod Touched
-- Dates that are in the calendar, and dates that are not.
pub mod Calendar
