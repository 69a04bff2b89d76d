-- The entry that a path leads to on a sound image is good, its fields are those that stand in its bytes, and its pages are its own, so with the free pages they
-- are fewer than 256.
use mathlib.Core.Path.{◌≡◌}
use Prim.Native.Nat.{ℕ, ◌+◌, ◌≤◌}
use mathlib.Core.Bool.{Bool, true, false}
use mathlib.Core.List.{List}
use lib.ListN.{length}
use lib.Dec.{T}
use Rattle.volume.specs.Bytes.{Bytes}
use Rattle.std.specs.Prelude.{if◌then◌else◌}
use Rattle.model.specs.Layout.{page_count, zero_bits}
use Rattle.model.specs.Entry.{vacant, a_file, a_directory, occupied, is_directory, is_locked, name_at, start_at, size_at, date_at, entry_at}
use Rattle.model.specs.Version1.{view}
use Rattle.model.specs.Sound.{good_entry}
use Rattle.model.specs.Path.{Path}
use Rattle.laws.proofs.Facts.{Facts, viewed}
use Rattle.laws.proofs.Slots.{Owned}
use Rattle.arrivals.proofs.Entries as Any
use Rattle.places.proofs.Arrivals.{EntryOf, readable}

-- the fields of a file's entry
pub file_fields : (b : Bytes) (at : ℕ) {locked : Bool} {name date : Bytes} {start size : ℕ} → entry_at b at ≡ a_file locked name date start size → (start_at b at ≡ start) × (size_at b at ≡ size)
unfolding entry_at
file_fields b at {locked} {name} {date} {start} {size} e = go (occupied b at) (is_directory b at) e
  where
    go : (o d : Bool) → (if o then (if d then a_directory (name_at b at) (date_at b at) (start_at b at) (size_at b at) else a_file (is_locked b at) (name_at b at) (date_at b at) (start_at b at) (size_at b at)) else vacant) ≡ a_file locked name date start size
        → (start_at b at ≡ start) × (size_at b at ≡ size)
    go true true k = (cc k, cc k)
    go true false k = (cc k, cc k)
    go false d k = (cc k, cc k)

-- ---- the laws of `arrivals`

pub entry_good : (b : Bytes) → Facts b → (p : Path) (at begins : ℕ) → EntryOf b p at begins → T (good_entry (view b) (entry_at b at))
entry_good b f p at begins x = Any.entry_good (viewed f) x

pub own_few : (b : Bytes) → Facts b → (ps : List ℕ) → Owned b ps → zero_bits b (page_count b) + 1 + length ps ≤ page_count b
own_few b f ps o = Any.own_few (viewed f) (readable f) ps o
