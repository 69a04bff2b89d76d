-- Paper 02 §4, the link list: what a reader must believe of it, beside the model of the base.
pub mod Coding
pub mod Judging
pub mod Links
pub mod Demand
