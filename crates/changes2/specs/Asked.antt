-- What is asked of an image of version 2 and of the arguments, at the geometry of a shape and N pages. Every sound image gives it for the directory or the
-- entry that a call works on (proofs/Sound2).
use Rattle.std.specs.Prelude.{◌≡◌, ℕ, ◌+◌, ◌-◌, ◌≤◌, ◌<◌, max, length}
use Rattle.volume.specs.Bytes.{Bytes, put}
use Rattle.volume.specs.Chain.{beyond, linked}
use Rattle.volume.specs.Geometry as On
use Rattle.volume.proofs.Growing.{Growing}
use Rattle.volume.proofs.Longer.{Chained}
use Rattle.volume.proofs.Writes.{Beside}
use Rattle.model.specs.Entry.{a_file}
use Rattle.model2.specs.Layout.{pages_for, code_in}
use Rattle.model2.specs.Entry.{is_locked, name_at, start_field, date_at, entry_at, new_entry}
use Rattle.model2.specs.Version2.{linked_pages}
use Rattle.laws2.proofs.Version2.{shelf2}
use Rattle.shape.specs.declared.Shape.{Shape}
use Rattle.shape.specs.Geometry.{geometry_of}
use Rattle.rows2.specs.Roomy.{Roomy}
use Rattle.cursor2.specs.Row.{AllLie}
use Rattle.known2.specs.Known.{Formed}

-- the page that a byte belongs to
abbrev pub home_in : Bytes → ℕ → ℕ
home_in b = (shelf2 (code_in b) (length b)).home

-- the entries of directory p can be gone through: there is a page, and those of the directory lie in the image with their links
pub record Walkable (s : Shape) (n p : ℕ) (b : Bytes) : Type 0 where
  pub roomy : Roomy s.size n
  pub some : 1 ≤ n
  pub lie : AllLie s b (linked_pages (On.next (geometry_of s) b) n p)

-- Directory p can get a page more: one is free, and the link of its last page is 0.
pub record Lengthening (s : Shape) (n p : ℕ) (b : Bytes) : Type 0 where
  pub formed : Formed b s n
  pub walk : Walkable s n p b
  pub growing : Growing (geometry_of s) n 1 ((geometry_of s).link (beyond (On.next (geometry_of s) b) (linked (On.next (geometry_of s) b) n p - 1) p)) b

-- A new entry can be put at a position and k pages added to it: it lies in the image, its fields have their lengths, and its start page can be the joint.
pub record Making (s : Shape) (n at flags size k : ℕ) (name date b : Bytes) : Type 0 where
  pub inside : at + 32 ≤ length b
  pub long : length name ≡ 16
  pub dated : length date ≡ 8
  pub sized : size < 4294967296
  pub growing : Growing (geometry_of s) n k (start_field at) (put at (new_entry flags name size date) b)

-- The file at a position can have v put at a place of its content or at its end: the page of its entry is none of the chain that starts there, whose pages are its
-- own, the pages wanted are free and counted, and the new size fits its four bytes.
pub record Writing (s : Shape) (n at start size from : ℕ) (v b : Bytes) : Type 0 where
  pub formed : Formed b s n
  pub inside : at + 32 ≤ length b
  pub is : entry_at b at ≡ a_file (is_locked b at) (name_at b at) (date_at b at) start size
  pub begins : from ≤ size
  pub own : ℕ
  pub chained : Chained (geometry_of s) (home_in b) n b (start_field at) own (pages_for s.size size)
  pub beside : Beside (geometry_of s) (home_in b) n (start_field at) own (at + 19) 4 b
  pub counted : On.free_count (geometry_of s) b ≡ On.zero_bits (geometry_of s) b n
  pub space : pages_for s.size (max size (from + length v)) - pages_for s.size size ≤ On.zero_bits (geometry_of s) b n
  pub fits : max size (from + length v) < 4294967296
