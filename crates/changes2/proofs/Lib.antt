-- Directories counted and gone through; what the pages of a chain give; the shape of an image whose header is right.
pub mod Directories
pub mod Chains2
pub mod Formed2
-- Each change as the code makes it.
pub mod Growths
pub mod Makes2
pub mod Writes2
-- Every sound image gives what they ask.
pub mod Sound2
