-- The pages that a write wants.
pub mod Lacking
-- What the call answers and leaves.
pub mod Writings
