-- The definitions of version 2 computed, by theme. Images and arguments are those of crates/model2/proofs/Desk2.antt.
pub mod Shapes
pub mod Formats
pub mod Slots
pub mod Desks
pub mod Wide
