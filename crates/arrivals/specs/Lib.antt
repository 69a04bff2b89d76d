-- Where a path leads; what list tells there, and what stands beside an answer; where a make puts its entry.
pub mod Places
pub mod Listed
pub mod Beside
pub mod Openings
