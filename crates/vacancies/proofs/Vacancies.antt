-- Whether an entry is vacant is read off its flags, as a search reads it; and every directory has a first entry.
use mathlib.Core.Path.{◌≡◌, sym, ◌∙◌, subst}
use Prim.Native.Nat.{ℕ, ◌+◌, ◌*◌, ◌<◌}
use native.Mathlib.Omega.{arith}
use mathlib.Core.Bool.{Bool, true, false}
use lib.Dec.{eqb}
use Rattle.volume.specs.Bytes.{Bytes}
use Rattle.std.specs.Prelude.{if◌then◌else◌}
use Rattle.volume.proofs.Occ.{Mem, mem_head}
use Rattle.model.specs.Entry.{entries_start, entries, is_locked, name_at, date_at, entry_at}
use Rattle.model.specs.Effect.{is_vacant}
use Rattle.fields.specs.declared.Page.{Page}
use Rattle.fields.specs.declared.Entry.{Entry}
use Rattle.fields.specs.declared.Entry.TheVariants.{Vacant, File, Directory}
use Rattle.fields.specs.Read.{entry_of}
use Rattle.fields.proofs.Searches.{entries_from, all_entries, entry_then}

-- the test that a search makes of an entry
abbrev pub vacancy : Bytes → ℕ → Bool
vacancy b at = is_vacant (entry_at b at)

-- what was read there is r
module _ (b : Bytes) (at : ℕ) (r : Entry) (read : entry_of r (is_locked b at) (name_at b at) (date_at b at) ≡ entry_at b at) where
  pub vacant_read : r ≡ Vacant → true ≡ vacancy b at
  unfolding is_vacant
  vacant_read e = rw (← read, e)

  pub file_read : (start : Page) (size : ℕ) → r ≡ File start size → false ≡ vacancy b at
  unfolding is_vacant
  file_read start size e = rw (← read, e)

  pub directory_read : (start : Page) (size : ℕ) → r ≡ Directory start size → false ≡ vacancy b at
  unfolding is_vacant
  directory_read start size e = rw (← read, e)

pub first_entry : (p : ℕ) → Mem (entries_start p + 32 * 0) (entries p)
first_entry p = subst (Mem (entries_start p + 32 * 0)) (sym (all_entries p ∙ entry_then p 0 (some_entries (eqb p 0)))) (mem_head (entries_start p + 32 * 0) (entries_from p (0 + 1)))
  where
    some_entries : (c : Bool) → 0 < (if c then 6 else 8)
    some_entries true = omega arith
    some_entries false = omega arith
