-- Document 01's cases marked T.
pub mod Table
-- Further cases, by theme, and all of them under one theorem.
pub mod Answers
pub mod Makes
pub mod Changes
pub mod Soundness
pub mod Pictures
pub mod Values
