-- Where a walk stops: each name that it passes leads one directory down and takes at most 17 bytes of the path, so it stops at most 17 bytes for
-- each level of the tree past the first name. The tree of an image of any version is read to a depth of N, so this holds of a path of any length.
use mathlib.Core.Path.{◌≡◌, refl, ap}
use Prim.Native.Nat.{ℕ, zero, suc, ◌+◌, ◌*◌, ◌≤◌, ◌<◌, max}
use native.Mathlib.Omega.{arith}
use mathlib.Core.Bool.{Bool, true, false, ◌&&◌}
use mathlib.Core.Option.{Option, none, some}
use mathlib.Core.List.{List, [], ◌∷◌, ◌++◌, drop_last}
use lib.ListN.{length}
use lib.Dec.{T, eqb}
use Rattle.volume.specs.Bytes.{Bytes, same}
use Rattle.std.specs.Prelude.{if◌then◌else◌}
use Rattle.volume.specs.Lists.{all, last_or}
use Rattle.volume.proofs.Tests.{and_both}
use Rattle.model.specs.Name.{legal_text}
use Rattle.model.specs.Entry.{Entry, vacant, a_file, a_directory}
use Rattle.model.specs.View.{View}
use Rattle.model.specs.Tree.{Row, end, free, file, dir, Tree, Node, file_node, directory_node, lookup}
use Rattle.model.specs.Path.{Name, Path, no_path, root, below, texts, names_from, path_to, path_of, parents, names}
use Rattle.model.specs.Image.{entry_row, row_of, row_at, tree_in}
use Rattle.model.specs.Walk.{enter, walk, node_named, in_walked, walk_to}
use Rattle.model.specs.RefusalOf.{stopped_at, walked, walked_parent, walked_directory}
use Rattle.model.proofs.Bounds.{text_fits}

-- ---- the levels of a tree

-- the directories that stand within one another below a row
unfoldable pub height : Row → ℕ
height end = 0
height (free r) = height r
height (file locked n d v r) = height r
height (dir n d s r) = max (suc (height s)) (height r)

module _ (v : View) where
  height_entry : (k : ℕ) (g : ℕ → Row) → ((p : ℕ) → height (g p) ≤ k) → (x : Entry) (rest : Row) → height rest ≤ suc k → height (entry_row v g x rest) ≤ suc k
  unfolding height entry_row
  height_entry k g h vacant rest r = r
  height_entry k g h (a_file locked name date start size) rest r = r
  height_entry k g h (a_directory name date start size) rest r = omega (arith, h start)

  height_row : (k : ℕ) (g : ℕ → Row) → ((p : ℕ) → height (g p) ≤ k) → (ats : List ℕ) → height (row_of v g ats) ≤ suc k
  unfolding height row_of
  height_row k g h [] = omega arith
  height_row k g h (at ∷ ats) = height_entry k g h (v.entry_at at) (row_of v g ats) (height_row k g h ats)

  height_at : (k p : ℕ) → height (row_at k v p) ≤ k
  unfolding height row_at
  height_at zero p = omega arith
  height_at (suc k) p = height_row k (row_at k v) (λ q. height_at k q) (v.entries p)

  -- the tree of an image
  pub height_tree : (code : ℕ) → height (tree_in code v).root ≤ v.pages
  unfolding tree_in
  height_tree code = height_at v.pages 0

-- a directory that a row holds has a level less
abbrev Lower : Option Node → ℕ → Type 0
Lower none k = Unit {0}
Lower (some (file_node locked d v)) k = Unit {0}
Lower (some (directory_node d r)) k = suc (height r) ≤ k

lower_more : (o : Option Node) (k j : ℕ) → k ≤ j → Lower o k → Lower o j
lower_more none k j h l = tt
lower_more (some (file_node locked d v)) k j h l = tt
lower_more (some (directory_node d r)) k j h l = omega arith

lookup_lower : (n : Bytes) (r : Row) → Lower (lookup n r) (height r)
unfolding lookup height
lookup_lower n end = tt
lookup_lower n (free r) = lookup_lower n r
lookup_lower n (file locked m d v r) = go (same m n) (lookup n r) (lookup_lower n r)
  where
    go : (c : Bool) (o : Option Node) → Lower o (height r) → Lower (if c then some (file_node locked d v) else o) (height r)
    go true o l = tt
    go false o l = l
lookup_lower n (dir m d s r) = go (same m n) (lookup n r) (lookup_lower n r)
  where
    go : (c : Bool) (o : Option Node) → Lower o (height r) → Lower (if c then some (directory_node d s) else o) (max (suc (height s)) (height r))
    go true o l = omega arith
    go false o l = lower_more o (height r) (max (suc (height s)) (height r)) (omega arith) l

-- ---- the names of a path

-- the first begins at byte k at the latest, and each at most 17 bytes later than the one before it may
unfoldable Spaced : ℕ → List Name → Type 0
Spaced k [] = Unit {0}
Spaced k (n ∷ ns) = (n.begins ≤ k) × Spaced (k + 17) ns

spaced_later : (k j : ℕ) (ns : List Name) → k ≤ j → Spaced k ns → Spaced j ns
unfolding Spaced
spaced_later k j [] h s = tt
spaced_later k j (n ∷ ns) h s = (omega (arith, s.0), spaced_later (k + 17) (j + 17) ns (omega arith) s.1)

spaced_left : (k : ℕ) (ns ms : List Name) → Spaced k (ns ++ ms) → Spaced k ns
unfolding Spaced
spaced_left k [] ms s = tt
spaced_left k (n ∷ ns) ms s = (s.0, spaced_left (k + 17) ns ms s.1)

names_spaced : (i : ℕ) (vs : List Bytes) → T (all legal_text vs) → Spaced i (names_from i vs)
unfolding Spaced names_from all
names_spaced i [] h = tt
names_spaced i (v ∷ vs) h =
    let two = and_both (legal_text v) (all legal_text vs) h in
    (omega arith, spaced_later (i + length v + 1) (i + 17) (names_from (i + length v + 1) vs) (omega (arith, text_fits v two.0)) (names_spaced (i + length v + 1) vs two.1))

last_joined : (n : Name) (ns : List Name) → drop_last (n ∷ ns) ++ (last_or n ns ∷ []) ≡ n ∷ ns
unfolding last_or
last_joined n [] = refl
last_joined n (m ∷ ns) = ap (λ (l : List Name). n ∷ l) (last_joined m ns)

path_to_spaced : (k : ℕ) (ns : List Name) → Spaced k ns → Spaced k (names (path_to ns))
unfolding path_to Spaced
path_to_spaced k [] s = tt
path_to_spaced k (n ∷ ns) s = rw (last_joined n ns) s

path_spaced : (path : Bytes) → Spaced 1 (names (path_of path))
unfolding path_of Spaced
path_spaced [] = tt
path_spaced (c ∷ []) = go (eqb c 0x2F)
  where
    go : (t : Bool) → Spaced 1 (names (if t then root else no_path))
    go true = tt
    go false = tt
path_spaced (c ∷ d ∷ r) = go (eqb c 0x2F) (all legal_text (texts (d ∷ r))) (names_spaced 1 (texts (d ∷ r)))
  where
    go : (t u : Bool) → (T u → Spaced 1 (names_from 1 (texts (d ∷ r)))) → Spaced 1 (names (if t && u then path_to (names_from 1 (texts (d ∷ r))) else no_path))
    go true true s = path_to_spaced 1 (names_from 1 (texts (d ∷ r))) (s tt)
    go true false s = tt
    go false u s = tt

-- ---- the walk

walk_stops : (k : ℕ) (ns : List Name) (r : Row) → Spaced k ns → stopped_at (walk ns r) ≤ k + 17 * height r
unfolding walk enter Spaced stopped_at
walk_stops k [] r s = omega arith
walk_stops k (n ∷ ns) r s = go (lookup n.bytes r) (lookup_lower n.bytes r) (λ q. walk_stops (k + 17) ns q s.1)
  where
    go : (o : Option Node) → Lower o (height r) → ((q : Row) → stopped_at (walk ns q) ≤ k + 17 + 17 * height q)
        → stopped_at (enter n o (walk ns)) ≤ k + 17 * height r
    go none l next = omega (arith, s.0)
    go (some (file_node locked d v)) l next = omega (arith, s.0)
    go (some (directory_node d q)) l next = omega (arith, next q)

-- with the last name, which is looked up in the directory that the others lead to
below_stops : (k : ℕ) (ns : List Name) (n : Name) (r : Row) → Spaced k (ns ++ (n ∷ []))
    → stopped_at (in_walked (walk ns r) (λ s. node_named n (lookup n.bytes s))) ≤ k + 17 * height r
unfolding walk enter node_named in_walked Spaced stopped_at
below_stops k [] n r s = go (lookup n.bytes r)
  where
    go : (o : Option Node) → stopped_at (node_named n o) ≤ k + 17 * height r
    go none = omega (arith, s.0)
    go (some x) = omega arith
below_stops k (m ∷ ns) n r s = go (lookup m.bytes r) (lookup_lower m.bytes r) (λ q. below_stops (k + 17) ns n q s.1)
  where
    go : (o : Option Node) → Lower o (height r)
        → ((q : Row) → stopped_at (in_walked (walk ns q) (λ s. node_named n (lookup n.bytes s))) ≤ k + 17 + 17 * height q)
        → stopped_at (in_walked (enter m o (walk ns)) (λ s. node_named n (lookup n.bytes s))) ≤ k + 17 * height r
    go none l next = omega (arith, s.0)
    go (some (file_node locked d v)) l next = omega (arith, s.0)
    go (some (directory_node d q)) l next = omega (arith, next q)

walk_to_stops : (k : ℕ) (p : Path) (r : Row) → Spaced k (names p) → stopped_at (walk_to p r) ≤ k + 17 * height r
unfolding walk_to stopped_at
walk_to_stops k no_path r s = omega arith
walk_to_stops k root r s = omega arith
walk_to_stops k (below ns n) r s = below_stops k ns n r s

-- ---- by the levels of the tree

-- a tree of so few levels that every byte at which a walk stops in it has a number of 16 bits
abbrev pub Shallow : Tree → Type 0
Shallow t = height t.root ≤ 1024

module _ (t : Tree) (few : Shallow t) (path : Bytes) where
  pub to_stops : stopped_at (walked path t) < 65536
  to_stops = omega (arith, few, walk_to_stops 1 (path_of path) t.root (path_spaced path))

  pub directory_stops : stopped_at (walked_directory path t) < 65536
  directory_stops = omega (arith, few, walk_stops 1 (names (path_of path)) t.root (path_spaced path))

  pub parent_stops : stopped_at (walked_parent path t) < 65536
  parent_stops = omega (arith, few, walk_stops 1 (parents (path_of path)) t.root (of (path_of path) (path_spaced path)))
    where
      of : (p : Path) → Spaced 1 (names p) → Spaced 1 (parents p)
      of no_path s = s
      of root s = s
      of (below ns m) s = spaced_left 1 ns (m ∷ []) s
