-- A granted remove: the entry becomes vacant and its pages are given back, so the tree loses it and nothing else changes.
use mathlib.Core.Path.{◌≡◌, sym, subst}
use Prim.Native.Nat.{ℕ, ◌≤◌}
use native.Mathlib.Omega.{arith}
use mathlib.Core.Bool.{not}
use mathlib.Core.List.{List, foldl}
use lib.ListN.{set}
use lib.Dec.{T}
use Rattle.volume.specs.Bytes.{Bytes}
use Rattle.volume.specs.Geometry as On
use Rattle.volume.proofs.Entries.{Removed}
use Rattle.model.specs.Layout.{version1, page_count}
use Rattle.model.specs.Entry.{entry_at}
use Rattle.model.specs.Version1.{view}
use Rattle.model.specs.Sound.{pages_at, sound}
use Rattle.model.specs.Tree.{held, Node, vacate}
use Rattle.model.specs.Path.{Name, below}
use Rattle.model.specs.Image.{row_at, tree_of}
use Rattle.model.specs.Walk.{arrived, walk_to, change_at}
use Rattle.model.specs.Effect.{removed}
use Rattle.model.specs.Refusal.{is_missing, is_blocked, row_in}
use Rattle.model.specs.EffectOf
use Rattle.view_laws.proofs.Removing as Any
use Rattle.laws.proofs.Entries.{entry_within}
use Rattle.laws.proofs.Facts.{Facts, viewed}
use Rattle.laws.proofs.Focus.{named_found}
use Rattle.laws.proofs.Walks.{node_of, Target, target}
use Rattle.laws.proofs.Slots.{size, head_kept}
use Rattle.laws.proofs.Shelf.{shelved, afterwards}

module _ {b : Bytes} (f : Facts b) {ns : List Name} {n : Name} (tg : Target b ns n)
    (empty : held (row_in (node_of (view b) (row_at tg.above.e (view b)) (entry_at b tg.at))) ≤ 0) where
  pub removed_bytes : Removed version1 (page_count b) b (set (foldl (On.released version1) b (pages_at (view b) tg.at)) tg.at 0) tg.at (pages_at (view b) tg.at)
  removed_bytes = Any.removed_bytes (shelved f) (size f).whole (viewed f) ns tg.above.e tg.above.t tg.at n.bytes tg.above.leads tg.above.good tt tg.found empty

  removed_sound : let b' = set (foldl (On.released version1) b (pages_at (view b) tg.at)) tg.at 0 in
      T (sound b') × (tree_of b' ≡ record { pages = page_count b; code = 0; root = change_at ns (vacate n.bytes) (row_at (page_count b) (view b) 0) })
  removed_sound =
      let w = entry_within tg.above.t tg.at (named_found b tg.above.t n.bytes tg.at tg.found).0 in
      afterwards f removed_bytes.size (λ i l. removed_bytes.rest i (head_kept f i l) (omega (arith, w.far)))
      (Any.removed_sound (shelved f) (size f).whole (viewed f) ns tg.above.e tg.above.t tg.at n.bytes tg.above.leads tg.above.good tt tg.found empty)

pub removed_tree : {b : Bytes} → Facts b → (ns : List Name) (n : Name)
    → T (not (is_missing (walk_to (below ns n) (row_at (page_count b) (view b) 0)))) → T (not (is_blocked (walk_to (below ns n) (row_at (page_count b) (view b) 0))))
    → ((x : Node) → walk_to (below ns n) (row_at (page_count b) (view b) 0) ≡ arrived x → held (row_in x) ≤ 0)
    → T (sound (removed (below ns n) b)) × (tree_of (removed (below ns n) b) ≡ record { pages = page_count b; code = 0; root = change_at ns (vacate n.bytes) (row_at (page_count b) (view b) 0) })
unfolding EffectOf.removed
removed_tree {b} f ns n u v empty =
    let tg = target f u v in
    subst (λ (at : ℕ). let b' = set (foldl (On.released version1) b (pages_at (view b) at)) at 0 in
    T (sound b') × (tree_of b' ≡ record { pages = page_count b; code = 0; root = change_at ns (vacate n.bytes) (row_at (page_count b) (view b) 0) }))
    (sym tg.position) (removed_sound f tg (empty _ tg.node))
