-- Document 01, "The plain tree", and paper 02 §12: what a granted call does to the bytes of a sound image, which `see` reads as its version does. Every
-- byte not named here stays.
use Rattle.std.specs.Prelude.{ℕ, ◌+◌, ◌-◌, ◌*◌, max, Bool, true, false, length, set, eqb, if◌then◌else◌}
use Rattle.std.proofs.Math.Option.{Option, none, some, get_or}
use mathlib.Core.List.{foldl}
use Rattle.volume.specs.Bytes.{Bytes, byte_at, put, bit}
use Rattle.volume.specs.Lists.{first}
use Rattle.volume.specs.Geometry as On
use Rattle.model.specs.Entry.{Entry, vacant, a_file, a_directory}
use Rattle.model.specs.View.{View, EntryLayout}
use Rattle.model.specs.Sound.{pages_at}
use Rattle.model.specs.Path.{Path, last_name}
use Rattle.model.specs.Walk.{parent_in, position_in}

unfoldable pub is_vacant : Entry → Bool
is_vacant vacant = true
is_vacant (a_file locked name date start size) = false
is_vacant (a_directory name date start size) = false

-- the lowest empty entry of a directory
unfoldable pub lowest_vacant : View → (directory : ℕ) → ℕ
lowest_vacant v p = get_or (first (λ at. is_vacant (v.entry_at at)) (v.entries p)) 0

-- Bit 6 of the flags becomes the mark; the other bits, and all other bytes, stay (paper 02 §10).
unfoldable pub with_lock : Bool → (flags : ℕ) → ℕ
with_lock locked x = x - 64 * bit 6 x + (if locked then 64 else 0)

module _ (l : EntryLayout) where
  -- a directory with a page more at the end of its chain
  unfoldable pub lengthened : View → (directory : ℕ) → Bytes
  lengthened v p = On.grown v.geometry v.pages 1 (On.joint_of v.geometry (l.start_field 0) (v.directory_pages p)) v.bytes

  unfoldable pub lengthened_if_full : View → (directory : ℕ) → (vacancy : Option ℕ) → Bytes
  lengthened_if_full v p none = lengthened v p
  lengthened_if_full v p (some at) = v.bytes

  -- the image with room for an entry in a directory: where directories grow, one without an empty entry gets a page first
  abbrev pub roomy : View → (directory : ℕ) → Bytes
  roomy v p = if v.numbers.grows then lengthened_if_full v p (first (λ at. is_vacant (v.entry_at at)) (v.entries p)) else v.bytes

  -- a new entry in the lowest empty one of a directory, and so many pages in a chain that starts there
  abbrev pub made_in : (flags size pages : ℕ) (name date : Bytes) (directory : ℕ) → View → Bytes
  made_in flags size pages name date p v =
      let at = lowest_vacant v p in
      On.grown v.geometry v.pages pages (l.start_field at) (put at (l.new_entry flags name size date) v.bytes)

  module _ (see : Bytes → View) where
    -- The parent directory's page comes before the new entry's own. In version 1 no directory grows.
    unfoldable pub made : (flags size pages : ℕ) → Path → (date : Bytes) → Bytes → Bytes
    made flags size pages path date b =
        let p = parent_in (see b) path in
        made_in flags size pages (last_name path) date p (see (roomy (see b) p))

    -- A file starts empty, with the pages of an empty one; a directory takes one page, all zero.
    abbrev pub file_made : Path → (date : Bytes) → Bytes → Bytes
    file_made path date b = made 0x80 0 ((see b).numbers.pages_for 0) path date b

    abbrev pub directory_made : Path → (date : Bytes) → Bytes → Bytes
    directory_made path date b = made 0x81 (see b).numbers.page_size 1 path date b

    -- v put at place `from` of the content of the file at position `at`, which keeps its pages, gains those wanted and has the larger size
    unfoldable pub rewritten : (at from : ℕ) (v : Bytes) → Bytes → Bytes
    rewritten at from v b =
        let s = see b in
        let ps = pages_at s at in
        let size = max (l.size_at b at) (from + length v) in
        On.written s.geometry s.pages (l.start_field at) ps (s.numbers.pages_for size - length ps) (l.size_place at) (l.size_bytes size) from v b

    -- A write of no bytes changes nothing.
    unfoldable pub written : Path → (from : ℕ) (v : Bytes) → Bytes → Bytes
    written path from v b = let after = rewritten (position_in (see b) path) from v b in if eqb (length v) 0 then b else after

-- Lock and unlock, and remove.
module _ (see : Bytes → View) where
  unfoldable pub relocked : Path → Bool → Bytes → Bytes
  relocked path locked b = let at = position_in (see b) path in set b at (with_lock locked (byte_at b at))

  -- The flags byte becomes 0; the pages are given back and keep their bytes.
  unfoldable pub removed : Path → Bytes → Bytes
  removed path b =
      let at = position_in (see b) path in
      set (foldl (On.released (see b).geometry) b (pages_at (see b) at)) at 0
