-- What stands at the place that a path leads to: on a sound image the walk on the bytes and the walk on the tree arrive together, since in each directory
-- the entry that has the name is the first of its row that has it.
use mathlib.Core.Path.{◌≡◌, refl, ap, ◌∙◌, subst}
use Prim.Native.Nat.{ℕ, zero, suc, ◌-◌}
use native.Mathlib.Omega.{arith}
use mathlib.Core.Bool.{Bool, true, false}
use mathlib.Core.Option.{Option, none, some, map}
use mathlib.Core.List.{List}
use lib.ListN.{replicate}
use lib.Dec.{T}
use Rattle.volume.specs.Bytes.{Bytes}
use Rattle.volume.specs.Chain.{chain}
use Rattle.model.specs.Entry.{Entry, vacant, a_file, a_directory}
use Rattle.model.specs.View.{View, next}
use Rattle.model.specs.Sound.{pages_of, is_named, good_directory}
use Rattle.model.specs.Tree.{Row, Node, file_node, directory_node, lookup}
use Rattle.model.specs.Path.{Name, Path, no_path, root, below}
use Rattle.model.specs.Image.{content_of, row_at}
use Rattle.model.specs.Walk.{Walked, arrived, missing, blocked, node_named, in_walked, walk_to, entry_named, walk_on}
use Rattle.view_laws.proofs.FileEntry.{entry_by}
use Rattle.view_laws.proofs.Frame.{Headed}
use Rattle.view_laws.proofs.Focus.{named_found}
use Rattle.view_laws.proofs.Walks.{node_of, lookup_named, map_walked, Formed, walk_bytes}
use Rattle.arrivals.specs.Places.{Spot, the_root, the_file, the_directory, lock_in, name_in, date_in, spot_at, spot_named, located}

-- ---- what the tree has there

-- the row of a directory with the depth that is left below the root's entries
abbrev pub rows_in : View → ℕ → Row
rows_in v = row_at (v.pages - 1) v

abbrev pub node_at : View → Spot → Node
node_at v the_root = directory_node (replicate 8 0) (row_at v.pages v 0)
node_at v (the_file at begins start size) = node_of v (rows_in v) (v.entry_at at)
node_at v (the_directory at begins start size) = node_of v (rows_in v) (v.entry_at at)

module _ (v : View) (at begins start k : ℕ) {name date : Bytes} where
  pub file_node_lem : {locked : Bool} → v.entry_at at ≡ a_file locked name date start k
      → node_at v (the_file at begins start k) ≡ file_node locked date (content_of v k (chain (next v) (v.numbers.pages_for k) start))
  unfolding node_of pages_of
  file_node_lem is = ap (node_of v (rows_in v)) is

  pub directory_node_lem : v.entry_at at ≡ a_directory name date start k → node_at v (the_directory at begins start k) ≡ directory_node date (rows_in v start)
  unfolding node_of
  directory_node_lem is = ap (node_of v (rows_in v)) is

-- a root that is good is read to some depth
pub deep : (v : View) → Formed v → v.pages ≡ suc (v.pages - 1)
unfolding good_directory
deep v f = go v.pages f
  where
    go : (n : ℕ) → T (good_directory n v 0) → n ≡ suc (n - 1)
    go zero g = absurd g
    go (suc n) g = omega arith

module _ (v : View) (headed : Headed v) (f : Formed v) where
  spot_node : (n : Name) (p : ℕ) (o : Option ℕ) → entry_named v p n.bytes ≡ o
      → node_named n (map (λ at. node_of v (rows_in v) (v.entry_at at)) o) ≡ map_walked (node_at v) (spot_named v n o)
  unfolding node_named map_walked spot_named spot_at is_named
  spot_node n p none e = refl
  spot_node n p (some at) e = go (v.entry_at at) refl (named_found v p n.bytes at e).1
    where
      go : (x : Entry) → v.entry_at at ≡ x → T (is_named n.bytes x) → arrived (node_of v (rows_in v) (v.entry_at at)) ≡ map_walked (node_at v) (spot_at n at x)
      go vacant q h = absurd h
      go (a_file locked name date start size) q h = refl
      go (a_directory name date start size) q h = refl

  pub walk_located : (p : Path) → walk_to p (row_at v.pages v 0) ≡ map_walked (node_at v) (located v p)
  unfolding walk_to in_walked map_walked located
  walk_located no_path = refl
  walk_located root = refl
  walk_located (below ns n) = ap (λ (w : Walked Row). in_walked w (λ r. node_named n (lookup n.bytes r))) (walk_bytes v headed f ns) ∙ go (walk_on v ns 0)
    where
      go : (w : Walked ℕ) → in_walked (map_walked (row_at v.pages v) w) (λ r. node_named n (lookup n.bytes r))
          ≡ map_walked (node_at v) (in_walked w (λ p. spot_named v n (entry_named v p n.bytes)))
      go (arrived p) =
          ap (λ (k : ℕ). node_named n (lookup n.bytes (row_at k v p))) (deep v f) ∙ ap (node_named n) (lookup_named v (v.pages - 1) p n.bytes)
          ∙ spot_node n p (entry_named v p n.bytes) refl
      go (missing i) = refl
      go (blocked i) = refl

-- ---- what the bytes have there

-- the entry at position `at` has the last name of the path, which begins at that byte, in the directory that the names before it lead to
pub record EntryOf (v : View) (p : Path) (at begins : ℕ) : Type 0 where
  pub ns : List Name
  pub n : Name
  pub is : p ≡ below ns n
  pub first : n.begins ≡ begins
  pub page : ℕ
  pub reached : walk_on v ns 0 ≡ arrived page
  pub found : entry_named v page n.bytes ≡ some at

abbrev pub At : View → Path → Spot → Type 0
At v p the_root = p ≡ root
At v p (the_file at begins start size) = EntryOf v p at begins × (v.entry_at at ≡ a_file (lock_in (v.entry_at at)) (name_in (v.entry_at at)) (date_in (v.entry_at at)) start size)
At v p (the_directory at begins start size) = EntryOf v p at begins × (v.entry_at at ≡ a_directory (name_in (v.entry_at at)) (date_in (v.entry_at at)) start size)

abbrev AtEnd : View → Path → Walked Spot → Type 0
AtEnd v p (arrived s) = At v p s
AtEnd v p (missing i) = Unit {0}
AtEnd v p (blocked i) = Unit {0}

-- ---- an entry by its fields

-- as every version reads it from its bytes
module _ {name date : Bytes} {start size : ℕ} where
  pub read_file : {locked : Bool} (o d l : Bool) (n t : Bytes) (p k : ℕ) → entry_by o d l n t p k ≡ a_file locked name date start size → entry_by o d l n t p k ≡ a_file l n t start size
  read_file true true l n t p k e = cc e
  read_file true false l n t p k e = cc e
  read_file false d l n t p k e = cc e

  pub read_directory : (o d l : Bool) (n t : Bytes) (p k : ℕ) → entry_by o d l n t p k ≡ a_directory name date start size → entry_by o d l n t p k ≡ a_directory n t start size
  read_directory true true l n t p k e = cc e
  read_directory true false l n t p k e = cc e
  read_directory false d l n t p k e = cc e

-- and by what it says
fields_of_file : (x : Entry) {locked : Bool} {name date : Bytes} {start size : ℕ} → x ≡ a_file locked name date start size
    → x ≡ a_file (lock_in x) (name_in x) (date_in x) start size
unfolding lock_in name_in date_in
fields_of_file x e = rw e

fields_of_directory : (x : Entry) {name date : Bytes} {start size : ℕ} → x ≡ a_directory name date start size
    → x ≡ a_directory (name_in x) (date_in x) start size
unfolding name_in date_in
fields_of_directory x e = rw e

at_end : (v : View) (p : Path) → AtEnd v p (located v p)
unfolding located in_walked spot_named spot_at
at_end v no_path = tt
at_end v root = refl
at_end v (below ns n) = by_page (walk_on v ns 0) refl
  where
    by_entry : (t : ℕ) → walk_on v ns 0 ≡ arrived t → (at : ℕ) → entry_named v t n.bytes ≡ some at → (x : Entry) → v.entry_at at ≡ x
        → AtEnd v (below ns n) (spot_at n at x)
    by_entry t w at o vacant q = tt
    by_entry t w at o (a_file locked name date start size) q =
        (record { ns = ns; n = n; is = refl; first = refl; page = t; reached = w; found = o }, fields_of_file (v.entry_at at) q)
    by_entry t w at o (a_directory name date start size) q =
        (record { ns = ns; n = n; is = refl; first = refl; page = t; reached = w; found = o }, fields_of_directory (v.entry_at at) q)

    by_name : (t : ℕ) → walk_on v ns 0 ≡ arrived t → (o : Option ℕ) → entry_named v t n.bytes ≡ o → AtEnd v (below ns n) (spot_named v n o)
    by_name t w none e = tt
    by_name t w (some at) e = by_entry t w at e (v.entry_at at) refl

    by_page : (w : Walked ℕ) → walk_on v ns 0 ≡ w → AtEnd v (below ns n) (in_walked w (λ p. spot_named v n (entry_named v p n.bytes)))
    by_page (arrived t) e = by_name t e (entry_named v t n.bytes) refl
    by_page (missing i) e = tt
    by_page (blocked i) e = tt

pub located_at : (v : View) (p : Path) (s : Spot) → located v p ≡ arrived s → At v p s
located_at v p s e = subst (AtEnd v p) e (at_end v p)
