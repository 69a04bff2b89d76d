-- The calls of version 2 computed, by theme. Images and arguments are those of crates/model2/proofs/Desk2.antt, and how a case is written is in Run2.antt there.
pub mod Looks
pub mod Faults
pub mod Refused
pub mod Grows
pub mod Changes
