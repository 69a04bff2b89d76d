-- A granted remove of version 2: the entry becomes vacant and its pages, a directory's whole chain, are given back, so the tree loses it and nothing else
-- changes. A page given back keeps its bytes and its link.
use mathlib.Core.Path.{◌≡◌, refl, sym, subst}
use Prim.Native.Nat.{ℕ, ◌≤◌}
use native.Mathlib.Omega.{arith}
use mathlib.Core.List.{List, foldl}
use lib.ListN.{length, set}
use lib.Dec.{T}
use Rattle.volume.specs.Bytes.{Bytes}
use Rattle.volume.specs.Geometry as On
use Rattle.volume.proofs.Entries.{Removed}
use Rattle.model.specs.Sound.{pages_at}
use Rattle.model.specs.Tree.{held, Node, vacate}
use Rattle.model.specs.Path.{Name, below}
use Rattle.model.specs.Image.{row_at, tree_in}
use Rattle.model.specs.Walk.{arrived, walk_to}
use Rattle.model.specs.EffectOf.{removed}
use Rattle.model.specs.RefusalOf.{row_in}
use Rattle.model.specs.MeaningOf.{sound, tree_of, in_parent}
use Rattle.view_laws.proofs.Removing as Any
use Rattle.view_laws.proofs.Walks.{node_of, Target, target}
use Rattle.version_laws.proofs.Grants.{Says, Found}
use Rattle.model2.specs.Layout.{page_count, geometry2, code_in}
use Rattle.model2.specs.Entry.{entry_at}
use Rattle.model2.specs.Version2.{view2}
use Rattle.model2.specs.Calls.{v2}
use Rattle.laws2.proofs.Version2.{shelved2, sized2}
use Rattle.laws2.proofs.Facts2.{Sound2, sound_facts_lem, afterwards2}
use Rattle.laws2.proofs.Targets2.{parent_ends, target_behind}

-- the entry that a path leads to, a file or an empty directory
module _ {b : Bytes} (s : Sound2 b) {ns : List Name} {n : Name} (tg : Target (view2 b) ns n)
    (empty : held (row_in (node_of (view2 b) (row_at tg.above.e (view2 b)) (entry_at b tg.at))) ≤ 0) where
  abbrev b' : Bytes
  b' = set (foldl (On.released (geometry2 (code_in b) (length b))) b (pages_at (view2 b) tg.at)) tg.at 0

  pub removed_bytes : Removed (geometry2 (code_in b) (length b)) (page_count (code_in b) (length b)) b b' tg.at (pages_at (view2 b) tg.at)
  removed_bytes = Any.removed_bytes (shelved2 s.allowed) (sized2 s.allowed b refl) s.facts ns tg.above.e tg.above.t tg.at n.bytes
      tg.above.leads tg.above.good (parent_ends s.allowed s.facts tg.above) tg.found empty

  removed_sound : Says v2 b (below ns n) (vacate n.bytes) b'
  unfolding tree_in in_parent
  removed_sound =
      afterwards2 s removed_bytes.size (λ i l k. removed_bytes.rest i k (λ e. omega (arith, e, l, target_behind s.allowed s.facts tg)))
      (Any.removed_sound (shelved2 s.allowed) (sized2 s.allowed b refl) s.facts ns tg.above.e tg.above.t tg.at n.bytes
      tg.above.leads tg.above.good (parent_ends s.allowed s.facts tg.above) tg.found empty)

pub removed_tree : (b : Bytes) → T (sound v2 b) → (ns : List Name) (n : Name) → Found v2 b ns n
    → ((x : Node) → walk_to (below ns n) (tree_of v2 b).root ≡ arrived x → held (row_in x) ≤ 0)
    → Says v2 b (below ns n) (vacate n.bytes) (removed view2 (below ns n) b)
unfolding removed tree_in
removed_tree b h ns n found empty =
    let s = sound_facts_lem h in
    let tg = target s.facts.formed found.0 found.1 in
    subst (λ (at : ℕ). Says v2 b (below ns n) (vacate n.bytes) (set (foldl (On.released (geometry2 (code_in b) (length b))) b (pages_at (view2 b) at)) at 0))
    (sym tg.position) (removed_sound s tg (empty _ tg.node))
