pub mod NewBytes2
