-- What the refusals tell: no two cases alike.
pub mod Injective
