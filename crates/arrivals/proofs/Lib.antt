-- What stands at the place that a path leads to, and that it settles what a call does.
pub mod Arrivals
pub mod Entries
pub mod Settled
pub mod Placing
-- What the calls answer and do at each place.
pub mod Files
pub mod Finds
pub mod Lists
pub mod Readings
pub mod Locks
pub mod Writings
pub mod Vacancies
pub mod Removes
-- Where a make puts its entry.
pub mod Openings
pub mod Makes
