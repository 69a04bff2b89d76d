-- The directory that some names lead to in version 1, and its pages among the others': the laws of `view_laws` at `view b`.
use mathlib.Core.Path.{◌≡◌}
use Prim.Native.Nat.{ℕ, suc, ◌+◌, ◌≤◌}
use mathlib.Core.Option.{some}
use mathlib.Core.List.{List, ◌∷◌}
use lib.ListN.{length}
use lib.Dec.{T}
use Rattle.volume.specs.Bytes.{Bytes}
use Rattle.volume.proofs.Occ.{occ, Mem}
use Rattle.model.specs.Entry.{entries, entry_at}
use Rattle.model.specs.Version1.{view}
use Rattle.model.specs.Sound.{is_named, owned}
use Rattle.model.specs.Path.{Name}
use Rattle.model.specs.Walk.{entry_named}
use Rattle.view_laws.proofs.Focus as Any
use Rattle.laws.proofs.Owns.{own}

-- the entry at position `at` is a directory on page s
abbrev pub DirectoryAt : Bytes → ℕ → ℕ → Type 0
DirectoryAt b at s = Any.DirectoryAt (view b) at s

-- from the directory on page p, read to depth d, the names lead to the one on page t, with depth e left
abbrev pub Leads : Bytes → ℕ → ℕ → List Name → ℕ → ℕ → Type 0
Leads b d p names e t = Any.Leads (view b) d p names e t

pub named_found : (b : Bytes) (p : ℕ) (n : Bytes) (at : ℕ) → entry_named (view b) p n ≡ some at → Mem at (entries p) × T (is_named n (entry_at b at))
named_found b = Any.named_found (view b)

pub own_directory : (d : ℕ) (b : Bytes) (at s : ℕ) → DirectoryAt b at s → own d b (entry_at b at) ≡ s ∷ owned d (view b) s
unfolding own
own_directory d b = Any.own_directory d (view b)

-- a directory's pages are among those of the directory that holds it
pub directory_le : (d : ℕ) (b : Bytes) (p at s q : ℕ) → Mem at (entries p) → DirectoryAt b at s → occ q (s ∷ owned d (view b) s) ≤ occ q (owned (suc d) (view b) p)
directory_le d b = Any.directory_le d (view b)

pub leads_sub : (b : Bytes) (names : List Name) (d p e t q : ℕ) → Leads b d p names e t → occ q (t ∷ owned e (view b) t) ≤ occ q (p ∷ owned d (view b) p)
leads_sub b = Any.leads_sub (view b)

pub leads_owned : (b : Bytes) (names : List Name) (d p e t q : ℕ) → Leads b d p names e t → occ q (owned e (view b) t) ≤ occ q (owned d (view b) p)
leads_owned b = Any.leads_owned (view b)

-- every name goes one deeper
pub leads_depth : (b : Bytes) (names : List Name) (d p e t : ℕ) → Leads b d p names e t → d ≡ e + length names
leads_depth b = Any.leads_depth (view b)
