-- A row without the entries before its first occupied one, and where a walk that passes over them stands.
use Rattle.std.specs.Prelude.{◌≡◌, ℕ, zero, suc, ◌+◌, ◌-◌, ◌*◌, ◌≤◌, ◌<◌, Bool, ◌&&◌, length, if◌then◌else◌, Option, Some, None}
use mathlib.Core.List.{List, [], ◌∷◌, flat_map}
use Rattle.volume.specs.Bytes.{Bytes}
use Rattle.volume.specs.Geometry as On
use Rattle.model.specs.Effect.{is_vacant}
use Rattle.model2.specs.Entry.{entry_at}
use Rattle.model2.specs.Version2.{entry_count, entries_on}
use Rattle.shape.specs.declared.Shape.{Shape}
use Rattle.shape.specs.Geometry.{geometry_of}
use Rattle.cursor2.specs.declared.Cursor.{Cursor}
use Rattle.cursor2.specs.Row.{behind, row_from, AllLie, Stands}
use Rattle.occupied2.specs.declared.Occupied.{Occupied}

-- the entry at a position is vacant
abbrev pub is_free : Bytes → ℕ → Bool
is_free b at = is_vacant (entry_at b at)

-- a row from its first element on that fails the test
unfoldable pub past : (ℕ → Bool) → List ℕ → List ℕ
past f [] = []
past f (x ∷ xs) = let rest = past f xs in if f x then rest else x ∷ xs

-- of so many entries from number i on, 32 bytes apart: the number of the first that fails the test, or the one behind them
unfoldable pub number_from : (ℕ → Bool) → (start i many : ℕ) → ℕ
number_from f start i zero = i
number_from f start i (suc many) = let rest = number_from f start (suc i) many in if f (start + 32 * i) then rest else i

-- all entries from `number` to k pass the test
pub record Searching (f : ℕ → Bool) (start number count k : ℕ) : Type 0 where
  pub low : number ≤ k
  pub high : k ≤ count
  pub left : number_from f start number (count - number) ≡ number_from f start k (count - k)

-- four entries from a position on do
abbrev pub four_free : (ℕ → Bool) → (at : ℕ) → Bool
four_free f at = ((f at && f (at + 32)) && f (at + 64)) && f (at + 96)

-- a cursor is at an entry of its page or behind the last, and that page and those behind it lie in the image
pub record Between (s : Shape) (n : ℕ) (b : Bytes) (c : Cursor) : Type 0 where
  pub within : c.number ≤ entry_count s.size n c.page.0
  pub pages : AllLie s b (c.page.0 ∷ behind (On.next (geometry_of s) b) c.left c.page.0)

-- the entries of the pages behind a cursor's
abbrev pub row_behind : Shape → (pages : ℕ) → Bytes → Cursor → List ℕ
row_behind s n b c = flat_map (entries_on s.size n) (behind (On.next (geometry_of s) b) c.left c.page.0)

-- fewer pages may follow, and the page is at its first entry
abbrev pub Nearer : (left : ℕ) → Option Cursor → Type 0
Nearer left (Some c) = (c.left < left) × (c.number ≡ 0)
Nearer left None = Unit {0}

abbrev pub met_row : Shape → (pages : ℕ) → Bytes → Option Occupied → List ℕ
met_row s n b (Some o) = row_from s n b o.cursor
met_row s n b None = []

-- the cursor is at an entry, whose number is that of all less what is left
abbrev pub Meets : Shape → (pages : ℕ) → Bytes → (all : ℕ) → Option Occupied → Type 0
Meets s n b all (Some o) = Stands s n b o.cursor × (o.number + length (row_from s n b o.cursor) ≡ all)
Meets s n b all None = Unit {0}
