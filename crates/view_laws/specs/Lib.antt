-- What contracts of the judge's inner functions name besides the model's definitions.
pub mod Marks
