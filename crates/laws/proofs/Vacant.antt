-- A directory of version 1 whose entries are all vacant: the laws of `view_laws` at `view b`.
use mathlib.Core.Path.{◌≡◌}
use Prim.Native.Nat.{ℕ, suc}
use mathlib.Core.List.{[]}
use lib.ListN.{length}
use lib.Dec.{T}
use Rattle.volume.specs.Bytes.{Bytes, byte_at}
use Rattle.volume.proofs.Occ.{Mem}
use Rattle.model.specs.Entry.{entries, vacant, entry_at}
use Rattle.model.specs.Version1.{view}
use Rattle.model.specs.Sound.{good_directory, owned}
use Rattle.model.specs.Tree.{empty_row}
use Rattle.model.specs.Image.{row_at}
use Rattle.view_laws.proofs.Vacant as Any
use Rattle.laws.proofs.Entries.{nodup_entries}

-- an entry whose flags byte is 0
pub zero_vacant : (b : Bytes) (at : ℕ) → byte_at b at ≡ 0 → entry_at b at ≡ vacant
unfolding entry_at
zero_vacant b at e = rw e

module _ (b : Bytes) (d p : ℕ) (h : (x : ℕ) → Mem x (entries p) → entry_at b x ≡ vacant) where
  pub vacant_row : row_at (suc d) (view b) p ≡ empty_row (length (entries p))
  vacant_row = Any.vacant_row (view b) d p h

  pub vacant_owns : owned (suc d) (view b) p ≡ []
  vacant_owns = Any.vacant_owns (view b) d p h

  pub vacant_good : T (good_directory (suc d) (view b) p)
  vacant_good = Any.vacant_good (view b) d p h (nodup_entries p)
