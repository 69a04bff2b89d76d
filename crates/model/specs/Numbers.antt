-- Document 01, "Numbers", and paper 02 §12: the numbers of a cartridge. In version 2 they hang on N and on the page code; in version 1 they are the
-- same for every N, and there is no code.
use Rattle.std.specs.Prelude.{ℕ, Bool, false}
use Rattle.model.specs.Layout.{page_size, pages_for}

pub record Numbers : Type 0 where
  -- the pages set aside: the header, in version 2 the table of links too
  pub aside : ℕ
  -- the bytes of a page, which are also a directory's size
  pub page_size : ℕ
  -- k, the number of pages of a file of some size
  pub pages_for : (size : ℕ) → ℕ
  -- the entries of the root on the header page, and of a directory on any other page
  pub root_entries : ℕ
  pub page_entries : ℕ
  -- a directory without a free entry gets a page more
  pub grows : Bool

-- version 1: the header alone; 256; max 1 ((size + 254) / 255); 6 and 8; a directory is one page
abbrev pub numbers1 : Numbers
numbers1 = record { aside = 1; page_size = page_size; pages_for = pages_for; root_entries = 6; page_entries = 8; grows = false }
