-- The walk on version 1's bytes leads where the walk on the tree leads, or stops at the same name: the laws of `view_laws` at `view b`.
use mathlib.Core.Path.{◌≡◌}
use Prim.Native.Nat.{ℕ, suc}
use mathlib.Core.Bool.{not}
use mathlib.Core.Option.{some, map}
use mathlib.Core.List.{List}
use lib.Dec.{T}
use Rattle.volume.specs.Bytes.{Bytes}
use Rattle.model.specs.Layout.{page_count}
use Rattle.model.specs.Entry.{entry_at}
use Rattle.model.specs.Version1.{view}
use Rattle.model.specs.Sound.{good_directory}
use Rattle.model.specs.Tree.{Row, lookup}
use Rattle.model.specs.Path.{Name, below}
use Rattle.model.specs.Image.{row_at, tree_of, tree_in}
use Rattle.model.specs.Walk.{Walked, arrived, walk, walk_to, entry_named, walk_on}
use Rattle.model.specs.Refusal.{is_missing, is_blocked}
unfoldable pub use Rattle.view_laws.proofs.Walks.{node_of, map_walked}
pub use Rattle.view_laws.proofs.Walks.{last_entered}
use Rattle.view_laws.proofs.Walks as Any
use Rattle.laws.proofs.Facts.{Facts}
use Rattle.laws.proofs.Frame.{headed}

pub lookup_named : (b : Bytes) (d p : ℕ) (n : Bytes)
    → lookup n (row_at (suc d) (view b) p) ≡ map (λ at. node_of (view b) (row_at d (view b)) (entry_at b at)) (entry_named (view b) p n)
lookup_named b = Any.lookup_named (view b)

-- ---- the names but the last

-- what a walk on the bytes says of the walk on the tree
abbrev pub Mirrors : Bytes → ℕ → ℕ → List Name → Walked ℕ → Walked Row → Type 0
Mirrors b d p ns u w = Any.Mirrors (view b) d p ns u w

pub walk_mirrors : (b : Bytes) (ns : List Name) (d p : ℕ) → T (good_directory d (view b) p) → Mirrors b d p ns (walk_on (view b) ns p) (walk ns (row_at d (view b) p))
walk_mirrors b = Any.walk_mirrors (view b)

-- the same, as one equation
pub walk_bytes : {b : Bytes} → Facts b → (ns : List Name) → walk ns (tree_of b).root ≡ map_walked (row_at (page_count b) (view b)) (walk_on (view b) ns 0)
unfolding tree_in
walk_bytes {b} f = Any.walk_bytes (view b) (headed b) f.formed

-- ---- the parent directory of a granted call

abbrev pub Parent : Bytes → List Name → Type 0
Parent b ns = Any.Parent (view b) ns

pub parent : {b : Bytes} → Facts b → {ns : List Name}
    → T (not (is_missing (walk ns (row_at (page_count b) (view b) 0)))) → T (not (is_blocked (walk ns (row_at (page_count b) (view b) 0)))) → Parent b ns
parent f = Any.parent f.formed

-- the parent directory where the walk on the bytes leads to it
pub parent_at : (b : Bytes) → Facts b → (ns : List Name) (t : ℕ) → walk_on (view b) ns 0 ≡ arrived t → (p : Parent b ns) × (p.t ≡ t)
parent_at b f = Any.parent_at (view b) f.formed

-- ---- the entry that a path leads to

abbrev pub Target : Bytes → List Name → Name → Type 0
Target b ns n = Any.Target (view b) ns n

abbrev pub target_at : (b : Bytes) (ns : List Name) (n : Name) (p : Parent b ns) (at : ℕ) → entry_named (view b) p.t n.bytes ≡ some at → Target b ns n
target_at b = Any.target_at (view b)

pub target : {b : Bytes} → Facts b → {ns : List Name} {n : Name}
    → T (not (is_missing (walk_to (below ns n) (row_at (page_count b) (view b) 0)))) → T (not (is_blocked (walk_to (below ns n) (row_at (page_count b) (view b) 0)))) → Target b ns n
target f = Any.target f.formed
