-- The laws of calls over a version. First the lines of refusals, and the names of a path.
pub mod Lines
pub mod Names
-- What a granted call has passed, and what it does; and that it keeps the length.
pub mod Passed
pub mod Grants
pub mod Lengths
-- What a version owes, one call on any image, lists of calls, and the theorems.
pub mod Owed
pub mod Steps
pub mod Lists
pub mod Headline
