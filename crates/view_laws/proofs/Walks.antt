-- The walk on the bytes leads where the walk on the tree leads, or stops at the same name: in each directory the entry that has the name is
-- the first of its row that has it.
use mathlib.Core.Path.{◌≡◌, refl, sym, ap, ◌∙◌, subst}
use Prim.Native.Nat.{ℕ, zero, suc}
use native.Mathlib.Omega.{arith}
use mathlib.Core.Bool.{Bool, true, false, not}
use mathlib.Core.Option.{Option, none, some, get_or, map}
use mathlib.Core.List.{List, [], ◌∷◌, ◌++◌}
use lib.Dec.{T}
use Rattle.volume.specs.Bytes.{Bytes}
use Rattle.std.specs.Prelude.{if◌then◌else◌}
use Rattle.volume.specs.Lists.{first}
use Rattle.model.specs.Entry.{Entry, vacant, a_file, a_directory}
use Rattle.model.specs.View.{View}
use Rattle.model.specs.Sound.{pages_of, is_named, in_directory, good_directory}
use Rattle.model.specs.Tree.{Row, Node, file_node, directory_node, lookup}
use Rattle.model.specs.Path.{Name, below}
use Rattle.model.specs.Image.{content_of, entry_row, row_of, row_at}
use Rattle.model.specs.Walk.{Walked, arrived, missing, blocked, enter, walk, node_named, in_walked, walk_to, entry_named, enter_on, walk_on, arrived_or}
use Rattle.model.specs.Refusal.{is_missing, is_blocked, is_directory_node}
use Rattle.view_laws.proofs.Frame.{Headed, depth, good_below}
use Rattle.view_laws.proofs.Focus.{DirectoryAt, Leads, named_found, leads_depth}
use Rattle.view_laws.proofs.FileEntry.{is_file_entry}

-- ---- a name in a row

-- what an entry is in the tree; a vacant one is nothing, and no name leads to it
unfoldable pub node_of : View → (ℕ → Row) → Entry → Node
node_of v g vacant = file_node false [] []
node_of v g (a_file locked name date start size) = file_node locked date (content_of v size (pages_of v (a_file locked name date start size)))
node_of v g (a_directory name date start size) = directory_node date (g start)

lookup_entry : (v : View) (g : ℕ → Row) (n : Bytes) (x : Entry) (rest : Row) → lookup n (entry_row v g x rest) ≡ (if is_named n x then some (node_of v g x) else lookup n rest)
unfolding lookup entry_row is_named node_of
lookup_entry v g n vacant rest = refl
lookup_entry v g n (a_file locked name date start size) rest = refl
lookup_entry v g n (a_directory name date start size) rest = refl

lookup_row : (v : View) (g : ℕ → Row) (n : Bytes) (ats : List ℕ)
    → lookup n (row_of v g ats) ≡ map (λ at. node_of v g (v.entry_at at)) (first (λ at. is_named n (v.entry_at at)) ats)
unfolding lookup row_of first
lookup_row v g n [] = refl
lookup_row v g n (x ∷ xs) =
    lookup_entry v g n (v.entry_at x) (row_of v g xs)
    ∙ ap (λ (o : Option Node). if is_named n (v.entry_at x) then some (node_of v g (v.entry_at x)) else o) (lookup_row v g n xs)
    ∙ move (is_named n (v.entry_at x)) (first (λ at. is_named n (v.entry_at at)) xs)
  where
    move : (c : Bool) (o : Option ℕ) → (if c then some (node_of v g (v.entry_at x)) else map (λ at. node_of v g (v.entry_at at)) o)
        ≡ map (λ at. node_of v g (v.entry_at at)) (if c then some x else o)
    move true o = refl
    move false o = refl

pub lookup_named : (v : View) (d p : ℕ) (n : Bytes) → lookup n (row_at (suc d) v p) ≡ map (λ at. node_of v (row_at d v) (v.entry_at at)) (entry_named v p n)
unfolding row_at entry_named
lookup_named v d p n = lookup_row v (row_at d v) n (v.entries p)

-- a named entry whose node is no directory is a file's
pub node_file : (v : View) (g : ℕ → Row) (n : Bytes) (x : Entry) → T (is_named n x) → T (not (is_directory_node (node_of v g x))) → T (is_file_entry x)
unfolding is_named is_directory_node node_of is_file_entry
node_file v g n vacant h k = h
node_file v g n (a_file locked name date start size) h k = tt
node_file v g n (a_directory name date start size) h k = k

-- ---- the names but the last

-- what a walk on the bytes says of the walk on the tree
abbrev pub Mirrors : View → ℕ → ℕ → List Name → Walked ℕ → Walked Row → Type 0
Mirrors v d p ns (arrived t) w = (e : ℕ) × Leads v d p ns e t × (w ≡ arrived (row_at e v t)) × T (good_directory e v t)
Mirrors v d p ns (missing i) w = w ≡ missing i
Mirrors v d p ns (blocked i) w = w ≡ blocked i

mirrors_further : {v : View} (d p : ℕ) (n : Name) (ns : List Name) {at s : ℕ} → entry_named v p n.bytes ≡ some at → DirectoryAt v at s
    → (u : Walked ℕ) (w : Walked Row) → Mirrors v d s ns u w → Mirrors v (suc d) p (n ∷ ns) u w
mirrors_further d p n ns {at} {s} e h (arrived t) w m = (m.0, (at, s, e, h, m.1), m.2, m.3)
mirrors_further d p n ns e h (missing i) w m = m
mirrors_further d p n ns e h (blocked i) w m = m

pub walk_mirrors : (v : View) (ns : List Name) (d p : ℕ) → T (good_directory d v p) → Mirrors v d p ns (walk_on v ns p) (walk ns (row_at d v p))
unfolding walk_on walk good_directory enter_on enter is_named node_of
walk_mirrors v [] d p h = (d, (refl, refl), refl, h)
walk_mirrors v (n ∷ ns) zero p h = absurd h
walk_mirrors v (n ∷ ns) (suc d) p h =
    subst (λ (o : Option Node). Mirrors v (suc d) p (n ∷ ns) (enter_on n (map v.entry_at (entry_named v p n.bytes)) (walk_on v ns)) (enter n o (walk ns)))
    (sym (lookup_named v d p n.bytes))
    (go (entry_named v p n.bytes) refl (λ s k. walk_mirrors v ns d s k))
  where
    at_entry : (at : ℕ) → entry_named v p n.bytes ≡ some at → (x : Entry) → v.entry_at at ≡ x → T (is_named n.bytes x) → T (in_directory true (good_directory d v) x)
        → ((s : ℕ) → T (good_directory d v s) → Mirrors v d s ns (walk_on v ns s) (walk ns (row_at d v s)))
        → Mirrors v (suc d) p (n ∷ ns) (enter_on n (some x) (walk_on v ns)) (enter n (some (node_of v (row_at d v) x)) (walk ns))
    at_entry at e vacant q named sub next = absurd named
    at_entry at e (a_file locked name date start size) q named sub next = refl
    at_entry at e (a_directory name date start size) q named sub next =
        mirrors_further d p n ns e (record { name = name; date = date; size = size; is = q }) (walk_on v ns start) (walk ns (row_at d v start)) (next start sub)

    go : (o : Option ℕ) → entry_named v p n.bytes ≡ o
        → ((s : ℕ) → T (good_directory d v s) → Mirrors v d s ns (walk_on v ns s) (walk ns (row_at d v s)))
        → Mirrors v (suc d) p (n ∷ ns) (enter_on n (map v.entry_at o) (walk_on v ns)) (enter n (map (λ at. node_of v (row_at d v) (v.entry_at at)) o) (walk ns))
    go none e next = refl
    go (some at) e next =
        let f = named_found v p n.bytes at e in
        at_entry at e (v.entry_at at) refl f.1 (good_below d v p at h f.0) next

-- the same, as one equation
unfoldable pub map_walked : {A B : Type 0} → (A → B) → Walked A → Walked B
map_walked f (arrived x) = arrived (f x)
map_walked f (missing i) = missing i
map_walked f (blocked i) = blocked i

-- the root is good, directories being read to the depth that is enough
abbrev pub Formed : View → Type 0
Formed v = T (good_directory v.pages v 0)

pub walk_bytes : (v : View) → Headed v → Formed v → (ns : List Name) → walk ns (row_at v.pages v 0) ≡ map_walked (row_at v.pages v) (walk_on v ns 0)
unfolding map_walked
walk_bytes v headed f ns = go (walk_on v ns 0) (walk_mirrors v ns v.pages 0 f)
  where
    go : (u : Walked ℕ) → Mirrors v v.pages 0 ns u (walk ns (row_at v.pages v 0)) → walk ns (row_at v.pages v 0) ≡ map_walked (row_at v.pages v) u
    go (arrived t) m =
        m.2 ∙ ap {B = Walked Row} (λ r. arrived r) (sym (depth headed m.3 (omega (arith, leads_depth v ns v.pages 0 m.0 t m.1))).row)
    go (missing i) m = m
    go (blocked i) m = m

-- ---- the parent directory of a granted call

pub record Parent (v : View) (ns : List Name) : Type 0 where
  pub e : ℕ
  pub t : ℕ
  pub leads : Leads v v.pages 0 ns (suc e) t
  pub good : T (good_directory (suc e) v t)
  pub page : walk_on v ns 0 ≡ arrived t
  pub row : walk ns (row_at v.pages v 0) ≡ arrived (row_at (suc e) v t)

pub parent : {v : View} → Formed v → {ns : List Name}
    → T (not (is_missing (walk ns (row_at v.pages v 0)))) → T (not (is_blocked (walk ns (row_at v.pages v 0)))) → Parent v ns
unfolding is_missing is_blocked good_directory
parent {v} f {ns} u w = go (walk_on v ns 0) refl (walk_mirrors v ns v.pages 0 f)
  where
    some_depth : (e t : ℕ) → Leads v v.pages 0 ns e t → walk ns (row_at v.pages v 0) ≡ arrived (row_at e v t) → T (good_directory e v t) → walk_on v ns 0 ≡ arrived t → Parent v ns
    some_depth zero t l w g q = absurd g
    some_depth (suc e) t l w g q = record { e = e; t = t; leads = l; good = g; page = q; row = w }

    go : (x : Walked ℕ) → walk_on v ns 0 ≡ x → Mirrors v v.pages 0 ns x (walk ns (row_at v.pages v 0)) → Parent v ns
    go (arrived t) q m = some_depth m.0 t m.1 m.2 m.3 q
    go (missing i) q m = absurd (subst (λ (x : Walked Row). T (not (is_missing x))) m u)
    go (blocked i) q m = absurd (subst (λ (x : Walked Row). T (not (is_blocked x))) m w)

-- the parent directory where the walk on the bytes leads to it
pub parent_at : (v : View) → Formed v → (ns : List Name) (t : ℕ) → walk_on v ns 0 ≡ arrived t → (p : Parent v ns) × (p.t ≡ t)
unfolding good_directory
parent_at v f ns t q =
    let m : Mirrors v v.pages 0 ns (arrived t) (walk ns (row_at v.pages v 0)) =
    subst (λ (w : Walked ℕ). Mirrors v v.pages 0 ns w (walk ns (row_at v.pages v 0))) q (walk_mirrors v ns v.pages 0 f) in
    go m.0 m.1 m.2 m.3
  where
    go : (e : ℕ) → Leads v v.pages 0 ns e t → walk ns (row_at v.pages v 0) ≡ arrived (row_at e v t) → T (good_directory e v t) → (p : Parent v ns) × (p.t ≡ t)
    go zero l w g = absurd g
    go (suc e) l w g = (record { e = e; t = t; leads = l; good = g; page = q; row = w }, refl)

-- ---- the entry that a path leads to

pub record Target (v : View) (ns : List Name) (n : Name) : Type 0 where
  pub above : Parent v ns
  pub at : ℕ
  pub found : entry_named v above.t n.bytes ≡ some at
  pub node : walk_to (below ns n) (row_at v.pages v 0) ≡ arrived (node_of v (row_at above.e v) (v.entry_at at))
  pub position : get_or (entry_named v (arrived_or 0 (walk_on v ns 0)) n.bytes) 0 ≡ at

walked_last : {v : View} {ns : List Name} (n : Name) (p : Parent v ns)
    → walk_to (below ns n) (row_at v.pages v 0) ≡ node_named n (map (λ at. node_of v (row_at p.e v) (v.entry_at at)) (entry_named v p.t n.bytes))
unfolding walk_to in_walked
walked_last {v} n p =
    ap (λ (w : Walked Row). in_walked w (λ s. node_named n (lookup n.bytes s))) p.row
    ∙ ap (node_named n) (lookup_named v p.e p.t n.bytes)

-- the entry that has the last name
module _ (v : View) (ns : List Name) (n : Name) (p : Parent v ns) (at : ℕ) (e : entry_named v p.t n.bytes ≡ some at) where
  pub named_node : walk_to (below ns n) (row_at v.pages v 0) ≡ arrived (node_of v (row_at p.e v) (v.entry_at at))
  unfolding node_named
  named_node = walked_last n p ∙ ap (λ (o : Option ℕ). node_named n (map (λ at. node_of v (row_at p.e v) (v.entry_at at)) o)) e

  pub named_position : get_or (entry_named v (arrived_or 0 (walk_on v ns 0)) n.bytes) 0 ≡ at
  unfolding arrived_or
  named_position = ap (λ (w : Walked ℕ). get_or (entry_named v (arrived_or 0 w) n.bytes) 0) p.page ∙ ap (λ (o : Option ℕ). get_or o 0) e

  abbrev pub target_at : Target v ns n
  target_at = record { above = p; at = at; found = e; node = named_node; position = named_position }

-- the entry of a path that leads to no directory is a file's
pub target_file : {v : View} {ns : List Name} {n : Name} (tg : Target v ns n)
    → ((x : Node) → walk_to (below ns n) (row_at v.pages v 0) ≡ arrived x → T (not (is_directory_node x))) → T (is_file_entry (v.entry_at tg.at))
target_file {v} {n} tg is_file =
    node_file v (row_at tg.above.e v) n.bytes (v.entry_at tg.at) (named_found v tg.above.t n.bytes tg.at tg.found).1 (is_file _ tg.node)

-- the walk on to the last name stops where that of the parents does
inner_missing : (ns : List Name) (n : Name) (r : Row) → T (not (is_missing (walk_to (below ns n) r))) → T (not (is_missing (walk ns r)))
unfolding walk_to in_walked is_missing
inner_missing ns n r h = go (walk ns r) h
  where
    go : (w : Walked Row) → T (not (is_missing (in_walked w (λ s. node_named n (lookup n.bytes s))))) → T (not (is_missing w))
    go (arrived s) k = tt
    go (missing i) k = k
    go (blocked i) k = tt

inner_blocked : (ns : List Name) (n : Name) (r : Row) → T (not (is_blocked (walk_to (below ns n) r))) → T (not (is_blocked (walk ns r)))
unfolding walk_to in_walked is_blocked
inner_blocked ns n r h = go (walk ns r) h
  where
    go : (w : Walked Row) → T (not (is_blocked (in_walked w (λ s. node_named n (lookup n.bytes s))))) → T (not (is_blocked w))
    go (arrived s) k = tt
    go (missing i) k = tt
    go (blocked i) k = k

-- a walk that enters a directory by its last name leads to it
pub last_entered : (ns : List Name) (n : Name) (r s : Row) → walk (ns ++ (n ∷ [])) r ≡ arrived s → (d : Bytes) × (walk_to (below ns n) r ≡ arrived (directory_node d s))
unfolding walk enter walk_to in_walked node_named is_missing is_blocked
last_entered [] n r s e = go (lookup n.bytes r) e
  where
    go : (o : Option Node) → enter n o (walk []) ≡ arrived s → (d : Bytes) × (node_named n o ≡ arrived (directory_node d s))
    go none q = absurd (subst (λ (w : Walked Row). T (is_missing w)) q tt)
    go (some (file_node l d c)) q = absurd (subst (λ (w : Walked Row). T (is_blocked w)) q tt)
    go (some (directory_node d u)) q = (d, let same : u ≡ s = cc q in ap (λ (x : Row). arrived (directory_node d x)) same)
last_entered (m ∷ ns) n r s e = go (lookup m.bytes r) e (λ u. last_entered ns n u s)
  where
    go : (o : Option Node) → enter m o (walk (ns ++ (n ∷ []))) ≡ arrived s
        → ((u : Row) → walk (ns ++ (n ∷ [])) u ≡ arrived s → (d : Bytes) × (walk_to (below ns n) u ≡ arrived (directory_node d s)))
        → (d : Bytes) × (in_walked (enter m o (walk ns)) (λ q. node_named n (lookup n.bytes q)) ≡ arrived (directory_node d s))
    go none q next = absurd (subst (λ (w : Walked Row). T (is_missing w)) q tt)
    go (some (file_node l d c)) q next = absurd (subst (λ (w : Walked Row). T (is_blocked w)) q tt)
    go (some (directory_node d u)) q next = next u q

pub target : {v : View} → Formed v → {ns : List Name} {n : Name}
    → T (not (is_missing (walk_to (below ns n) (row_at v.pages v 0)))) → T (not (is_blocked (walk_to (below ns n) (row_at v.pages v 0)))) → Target v ns n
unfolding is_missing node_named
target {v} f {ns} {n} u w = go (entry_named v p.t n.bytes) refl
  where
    p : Parent v ns
    p = parent f (inner_missing ns n (row_at v.pages v 0) u) (inner_blocked ns n (row_at v.pages v 0) w)

    go : (o : Option ℕ) → entry_named v p.t n.bytes ≡ o → Target v ns n
    go none e = absurd (subst (λ (x : Walked Node). T (not (is_missing x))) (walked_last n p ∙ ap (λ (o : Option ℕ). node_named n (map (λ at. node_of v (row_at p.e v) (v.entry_at at)) o)) e) u)
    go (some at) e = target_at v ns n p at e
