-- Version 1 as a view: what document 01 says, with its numbers, in the order of a view's fields. `Layout`, `Numbers` and `Entry` have the definitions.
use Rattle.std.specs.Prelude.{◌+◌, true, [], ◌∷◌}
use Rattle.volume.specs.Bytes.{Bytes, le16}
use Rattle.volume.specs.Field.{byte}
use Rattle.model.specs.Layout.{version1, page_count}
use Rattle.model.specs.Numbers.{numbers1}
use Rattle.model.specs.Entry.{entries, entry_at, size_at, new_entry}
use Rattle.model.specs.View.{View, EntryLayout}

abbrev pub view : Bytes → View
view b = record {
  bytes = b;
  -- "Numbers" and "The header page": pages of 256 bytes, of which page 0 is the header; in a file's page byte 0 is the link and 255 bytes are
  -- content; byte 3 is the number of free pages, and the bitmap begins at byte 4
  geometry = version1;
  -- N = length / 256
  pages = page_count b;
  -- k = max 1 ((size + 254) / 255), and the others
  numbers = numbers1;
  -- a directory is one page and has no link
  directory_pages = λ p. p ∷ [];
  directory_ends = λ p. true;
  -- 6 entries in the root, from byte 64 on, and 8 in any other directory, from its page's first byte on; each has 32 bytes
  entries = entries;
  -- "A slot": flags 0, name 1 to 16, start page 17, size 18 and 19, date 20 to 27
  entry_at = entry_at b;
  -- a directory's entries stand on its one page
  place_of = λ d i. (d, i);
}

-- "A slot": start page 17, size 18 and 19, low byte first
abbrev pub layout1 : EntryLayout
layout1 = record {
  start_field = λ at. byte (at + 17);
  size_at = size_at;
  size_place = λ at. at + 18;
  size_bytes = le16;
  new_entry = λ flags name size date. new_entry flags name 0 size date;
}
