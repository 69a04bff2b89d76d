-- What is left of a directory's row from a cursor on. The whole row is `entries` of a view; the first cursor has all of it left.
use Rattle.std.specs.Prelude.{ℕ, ◌+◌, ◌-◌, ◌*◌, ◌<◌, eqb, if◌then◌else◌, Option, Some, None}
use Rattle.std.proofs.Math.Option.{none, some}
use Rattle.std.proofs.Math.Option as Model
use mathlib.Core.List.{List, [], ◌∷◌, ◌++◌, map, flat_map}
use Rattle.volume.specs.Bytes.{Bytes}
use Rattle.volume.specs.Lists.{count_from}
use Rattle.volume.specs.Geometry as On
use Rattle.volume.proofs.Follow.{Each, PageLies, Lies}
use Rattle.model2.specs.Version2.{linked_pages, entry_count, entries_start, entries_on}
use Rattle.shape.specs.declared.Shape.{Shape}
use Rattle.shape.specs.Geometry.{geometry_of}
use Rattle.cursor2.specs.declared.Cursor.{Cursor}

-- the row of the directory p, in an image of n pages
abbrev pub row : Shape → (pages : ℕ) → Bytes → (directory : ℕ) → List ℕ
row s n b p = flat_map (entries_on s.size n) (linked_pages (On.next (geometry_of s) b) n p)

-- the pages behind p, at most so many
unfoldable pub behind : (next : ℕ → ℕ) (left p : ℕ) → List ℕ
behind next left p = if eqb (next p) 0 then [] else linked_pages next left (next p)

-- the entries from number i on of page p, and those of the pages behind it
unfoldable pub entries_from : (size pages : ℕ) (next : ℕ → ℕ) (p i left : ℕ) → List ℕ
entries_from size n next p i left =
    map (λ j. entries_start size n p + 32 * j) (count_from i (entry_count size n p - i)) ++ flat_map (entries_on size n) (behind next left p)

abbrev pub position_at : Shape → (pages : ℕ) → Cursor → ℕ
position_at s n c = entries_start s.size n c.page.0 + 32 * c.number

abbrev pub row_from : Shape → (pages : ℕ) → Bytes → Cursor → List ℕ
row_from s n b c = entries_from s.size n (On.next (geometry_of s) b) c.page.0 c.number c.left

abbrev pub row_after : Shape → (pages : ℕ) → Bytes → Option Cursor → List ℕ
row_after s n b (Some c) = row_from s n b c
row_after s n b None = []

-- pages that lie in the image with their links
abbrev pub AllLie : Shape → Bytes → List ℕ → Type 0
AllLie s b ps = Each (λ q. PageLies (geometry_of s) q b × Lies ((geometry_of s).link q) b) ps

-- a cursor is at an entry of its page, and that page and those behind it lie in the image
pub record Stands (s : Shape) (n : ℕ) (b : Bytes) (c : Cursor) : Type 0 where
  pub within : c.number < entry_count s.size n c.page.0
  pub pages : AllLie s b (c.page.0 ∷ behind (On.next (geometry_of s) b) c.left c.page.0)

abbrev pub StandsAfter : Shape → (pages : ℕ) → Bytes → Option Cursor → Type 0
StandsAfter s n b (Some c) = Stands s n b c
StandsAfter s n b None = Unit {0}

abbrev pub found_of : Option ℕ → Model.Option ℕ
found_of (Some at) = some at
found_of None = none
