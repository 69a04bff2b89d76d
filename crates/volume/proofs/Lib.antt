-- The laws of a volume, for whoever builds on it: lists and counts first, then bytes and chains, then pages under any lawful geometry, and last the
-- turns of the loops that do these things.
-- Read in this order.
pub mod Examples
pub mod Occ
pub mod Tests
pub mod Flat
pub mod Splice
pub mod Puts
pub mod Chains
pub mod Fields
pub mod Lawful
pub mod Spreads
pub mod Bits
pub mod Marks
pub mod Pages
pub mod Grow
pub mod Longer
pub mod Writes
pub mod Entries
pub mod Stays
pub mod Small
pub mod Stretches
pub mod Fills
pub mod Lent
pub mod Weights
pub mod Search
pub mod Follow
pub mod Reading
pub mod Writing
pub mod Stores
pub mod Releasing
pub mod Growing
pub mod Unzeroed
pub mod Claiming
pub mod Covering
