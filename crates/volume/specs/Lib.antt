-- A volume of pages that knows no format: bytes, numbers in them, chains of pages, and pages taken and given back.
-- Read in this order.
pub mod Bytes
pub mod Lists
pub mod Field
pub mod Chain
pub mod Geometry
