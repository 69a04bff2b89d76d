-- What a directory of version 1 owns, entry by entry: the laws of `view_laws` at `view b`, where a directory is one page.
use mathlib.Core.Path.{◌≡◌}
use mathlib.Core.Logic.{◌≢◌}
use Prim.Native.Nat.{ℕ, suc, ◌+◌, ◌≤◌}
use mathlib.Core.List.{List, flat_map}
use lib.ListN.{length}
use Rattle.volume.specs.Bytes.{Bytes}
use Rattle.volume.proofs.Occ.{occ, Mem}
use Rattle.model.specs.Entry.{entries, Entry, entry_at}
use Rattle.model.specs.Version1.{view}
use Rattle.model.specs.Sound.{pages_of, owned}
use Rattle.view_laws.proofs.Owns as Any

-- the pages of an entry and of what is below it
unfoldable pub own : ℕ → Bytes → Entry → List ℕ
unfolding Any.own
own d b e = Any.own d (view b) e

pub owned_entries : (d : ℕ) (b : Bytes) (p : ℕ) → owned (suc d) (view b) p ≡ flat_map (λ at. own d b (entry_at b at)) (entries p)
unfolding own
owned_entries d b = Any.owned_entries d (view b)

-- an entry's pages are among the directory's, and two entries' are there side by side
pub own_le : (d : ℕ) (b : Bytes) (p at q : ℕ) → Mem at (entries p) → occ q (own d b (entry_at b at)) ≤ occ q (owned (suc d) (view b) p)
unfolding own
own_le d b = Any.own_le d (view b)

pub own_two : (d : ℕ) (b : Bytes) (p x y q : ℕ) → x ≢ y → Mem x (entries p) → Mem y (entries p)
    → occ q (own d b (entry_at b x)) + occ q (own d b (entry_at b y)) ≤ occ q (owned (suc d) (view b) p)
unfolding own
own_two d b = Any.own_two d (view b)

pub own_length : (d : ℕ) (b : Bytes) (p at : ℕ) → Mem at (entries p) → length (own d b (entry_at b at)) ≤ length (owned (suc d) (view b) p)
unfolding own
own_length d b = Any.own_length d (view b)

-- an entry owns its own pages
pub pages_own : (d : ℕ) (b : Bytes) (e : Entry) (q : ℕ) → occ q (pages_of (view b) e) ≤ occ q (own d b e)
unfolding own
pages_own d b = Any.pages_own d (view b)
