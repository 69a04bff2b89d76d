-- An image, read by its version. What document 01 says of entries, of directories and of the walk through them is a function of a view and asks for
-- no byte of the image but by it, so it is said once for every version (paper 02 §12). Version 1's view is `view b`, in `Version1`.
use Rattle.std.specs.Prelude.{ℕ, Bool, List}
use Rattle.volume.specs.Bytes.{Bytes}
use Rattle.volume.specs.Field.{Field}
use Rattle.volume.specs.Geometry as On
use Rattle.volume.specs.Geometry.{Geometry}
use Rattle.model.specs.Entry.{Entry}
use Rattle.model.specs.Numbers.{Numbers}

-- A directory is named by its first page, the root by 0; an entry by the position of its first byte.
pub record View : Type 0 where
  pub bytes : Bytes
  -- where pages, links, the count and the bitmap are
  pub geometry : Geometry
  -- N, which is also deep enough to read directories to
  pub pages : ℕ
  -- k of a size, and the other numbers that hang on N and the page code
  pub numbers : Numbers
  -- the pages of a directory in order, and whether it ends with the last of them
  pub directory_pages : (directory : ℕ) → List ℕ
  pub directory_ends : (directory : ℕ) → Bool
  -- the positions of its entries in order
  pub entries : (directory : ℕ) → List ℕ
  pub entry_at : (position : ℕ) → Entry
  -- the page that an entry of a directory stands on, and its number there, by its number among all of the directory's
  pub place_of : (directory entry : ℕ) → ℕ × ℕ

-- the page that follows page p, by its link
abbrev pub next : View → ℕ → ℕ
next v p = On.next v.geometry v.bytes p

-- the bit of page p, the number of zero bits among the first n, and the number of free pages that the header has
abbrev pub page_bit : View → ℕ → ℕ
page_bit v p = On.page_bit v.geometry v.bytes p

abbrev pub zero_bits : View → ℕ → ℕ
zero_bits v n = On.zero_bits v.geometry v.bytes n

abbrev pub free_count : View → ℕ
free_count v = On.free_count v.geometry v.bytes

-- Where an entry has its numbers, and the bytes of a new one: the same for all images of a version.
pub record EntryLayout : Type 0 where
  -- the start page
  pub start_field : (position : ℕ) → Field
  -- the size: as a number, where its bytes stand, and a number as such bytes
  pub size_at : Bytes → (position : ℕ) → ℕ
  pub size_place : (position : ℕ) → ℕ
  pub size_bytes : (size : ℕ) → Bytes
  -- the 32 bytes that a make writes, the start page being 0
  pub new_entry : (flags : ℕ) (name : Bytes) (size : ℕ) (date : Bytes) → Bytes
