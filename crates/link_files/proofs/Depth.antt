-- A walk that arrives enters a directory with each name, and each directory and each file's content needs pages; a sound image has 255 at most
-- beside the header. So a directory's path has at most 17 · 255 bytes and a file at most 255 · 255.
use mathlib.Core.Path.{◌≡◌, refl, sym, ap, ◌∙◌, subst}
use Prim.Native.Nat.{ℕ, suc, ◌+◌, ◌*◌, ◌≤◌, max}
use native.Mathlib.Omega.{arith}
use mathlib.Core.Bool.{Bool, true, false, not, ◌&&◌}
use mathlib.Core.Option.{Option, none, some, none-ne-some}
use mathlib.Core.List.{List, [], ◌∷◌}
use lib.ListN.{length}
use lib.Dec.{T, eqb}
use Rattle.volume.specs.Bytes.{Bytes, same}
use Rattle.std.specs.Prelude.{if◌then◌else◌}
use Rattle.volume.specs.Lists.{all}
use Rattle.volume.proofs.Tests.{and_both}
use Rattle.model.specs.Layout.{pages_for}
use Rattle.model.specs.Name.{legal_text}
use Rattle.model.specs.Sound.{sound}
use Rattle.model.specs.Tree.{Row, end, free, file, dir, needs, free_number, Node, file_node, directory_node, lookup, needs_of}
use Rattle.model.specs.Image.{tree_of}
use Rattle.model.specs.Path.{Name, no_path, before, texts, names_from, path_to, path_of, is_no_path, names}
use Rattle.model.specs.Walk.{Walked, arrived, enter, walk}
use Rattle.model.specs.Refusal.{is_missing, is_blocked}
use Rattle.laws.proofs.Facts.{sound_facts_lem, valid_sized}
use Rattle.laws.proofs.Counting.{free_sum, free_number_lem}
use Rattle.laws.proofs.Names.{text_facts}
use Rattle.family.proofs.Onward.{names_to}

-- ---- what a name in a row needs

node_needs : Node → ℕ
node_needs (file_node l d v) = pages_for (length v)
node_needs (directory_node d r) = 1 + needs r

lookup_needs : (n : Bytes) (r : Row) (x : Node) → lookup n r ≡ some x → node_needs x ≤ needs r
unfolding lookup needs_of node_needs
lookup_needs n end x e = absurd (none-ne-some x e)
lookup_needs n (free r) x e = lookup_needs n r x e
lookup_needs n (file l m d v r) x e = go (same m n) e (lookup_needs n r x)
  where
    go : (z : Bool) → (if z then some (file_node l d v) else lookup n r) ≡ some x → (lookup n r ≡ some x → node_needs x ≤ needs r) → node_needs x ≤ pages_for (length v) + needs r
    go true u next = let q : file_node l d v ≡ x = cc u in subst (λ (y : Node). node_needs y ≤ pages_for (length v) + needs r) q (omega arith)
    go false u next = let h = next u in omega arith
lookup_needs n (dir m d s r) x e = go (same m n) e (lookup_needs n r x)
  where
    go : (z : Bool) → (if z then some (directory_node d s) else lookup n r) ≡ some x → (lookup n r ≡ some x → node_needs x ≤ needs r) → node_needs x ≤ 1 + needs s + needs r
    go true u next = let q : directory_node d s ≡ x = cc u in subst (λ (y : Node). node_needs y ≤ 1 + needs s + needs r) q (omega arith)
    go false u next = let h = next u in omega arith

walk_needs : (ns : List Name) (r s : Row) → walk ns r ≡ arrived s → length ns + needs s ≤ needs r
unfolding walk enter is_missing is_blocked node_needs
walk_needs [] r s e = let q : r ≡ s = cc e in subst (λ (x : Row). 0 + needs x ≤ needs r) q (omega arith)
walk_needs (n ∷ ns) r s e = go (lookup n.bytes r) refl e (walk_needs ns)
  where
    go : (o : Option Node) → lookup n.bytes r ≡ o → enter n o (walk ns) ≡ arrived s → ((q t : Row) → walk ns q ≡ arrived t → length ns + needs t ≤ needs q) → suc (length ns) + needs s ≤ needs r
    go none l u next = absurd (subst (λ (w : Walked Row). T (is_missing w)) u tt)
    go (some (file_node k d v)) l u next = absurd (subst (λ (w : Walked Row). T (is_blocked w)) u tt)
    go (some (directory_node d q)) l u next = let h = next q s u in let k = lookup_needs n.bytes r (directory_node d q) l in omega arith

-- ---- a path's length by its names

abbrev pub slashes : List Bytes → ℕ
slashes [] = 0
slashes (v ∷ vs) = 1 + length v + slashes vs

pub texts_long : (v : Bytes) → slashes (texts v) ≡ 1 + length v
unfolding texts before
texts_long [] = refl
texts_long (c ∷ v) = go (eqb c 0x2F) (texts v) (texts_long v)
  where
    go : (z : Bool) (ts : List Bytes) → slashes ts ≡ 1 + length v → slashes (if z then [] ∷ ts else before c ts) ≡ 1 + suc (length v)
    go true ts h = omega arith
    go false [] h = absurd (omega arith)
    go false (t ∷ ts) h = omega arith

pub some_texts : (ts : List Bytes) (n : ℕ) → slashes ts ≡ 1 + n → length ts ≡ 0 → ⊥
some_texts [] n e z = omega arith
some_texts (t ∷ ts) n e z = omega arith

legal_long : (vs : List Bytes) → T (all legal_text vs) → slashes vs ≤ 17 * length vs
unfolding all
legal_long [] h = omega arith
legal_long (v ∷ vs) h =
    let two = and_both (legal_text v) (all legal_text vs) h in
    let short = (text_facts two.0).short in
    let rest = legal_long vs two.1 in
    omega arith

pub names_long : (i : ℕ) (vs : List Bytes) → length (names_from i vs) ≡ length vs
unfolding names_from
names_long i [] = refl
names_long i (v ∷ vs) = ap suc (names_long (i + length v + 1) vs)

path_names : (d : Bytes) → T (not (is_no_path (path_of d))) → length d ≤ max 1 (17 * length (names (path_of d)))
unfolding path_of is_no_path
path_names [] h = absurd h
path_names (c ∷ []) h = omega arith
path_names (c ∷ e ∷ r) h = go (eqb c 0x2F && all legal_text (texts (e ∷ r))) refl h
  where
    go : (z : Bool) → eqb c 0x2F && all legal_text (texts (e ∷ r)) ≡ z → T (not (is_no_path (if z then path_to (names_from 1 (texts (e ∷ r))) else no_path)))
        → suc (suc (length r)) ≤ max 1 (17 * length (names (if z then path_to (names_from 1 (texts (e ∷ r))) else no_path)))
    go true q k =
        let legal = (and_both (eqb c 0x2F) (all legal_text (texts (e ∷ r))) (subst T (sym q) tt)).1 in
        let a = texts_long (e ∷ r) in
        let b = legal_long (texts (e ∷ r)) legal in
        let n : length (names (path_to (names_from 1 (texts (e ∷ r))))) ≡ length (texts (e ∷ r)) = ap length (names_to (names_from 1 (texts (e ∷ r)))) ∙ names_long 1 (texts (e ∷ r)) in
        omega (arith, n)
    go false q k = absurd k

-- ---- in a sound image

root_needs : (b : Bytes) → T (sound b) → needs (tree_of b).root ≤ 255
root_needs b h = let f = sound_facts_lem h in omega (arith, free_sum f, (valid_sized b f.fits).high)

pub path_short : (b : Bytes) → T (sound b) → (d : Bytes) → T (not (is_no_path (path_of d))) → (s : Row) → walk (names (path_of d)) (tree_of b).root ≡ arrived s → length d ≤ 4335
path_short b h d p s e =
    let a = path_names d p in
    let n = walk_needs (names (path_of d)) (tree_of b).root s e in
    let m = root_needs b h in
    omega arith

pub image_short : (b : Bytes) → T (sound b) → length b ≤ 65536
image_short b h = let s = valid_sized b (sound_facts_lem h).fits in omega (arith, s.high, s.whole)

pages_short : (n : ℕ) → pages_for n ≤ 255 → n ≤ 65025
unfolding pages_for
pages_short n h = omega arith

pub file_short : (b : Bytes) → T (sound b) → (ns : List Name) (s : Row) (n : Bytes) (locked : Bool) (date v : Bytes) → walk ns (tree_of b).root ≡ arrived s
    → lookup n s ≡ some (file_node locked date v) → length v ≤ 65025
unfolding node_needs
file_short b h ns s n locked date v e l =
    let a = walk_needs ns (tree_of b).root s e in
    let k = lookup_needs n s (file_node locked date v) l in
    let m = root_needs b h in
    pages_short (length v) (omega arith)

-- what a file has is not free
pub file_free : (b : Bytes) → T (sound b) → (ns : List Name) (s : Row) (n : Bytes) (locked : Bool) (date v : Bytes) → walk ns (tree_of b).root ≡ arrived s
    → lookup n s ≡ some (file_node locked date v) → free_number (tree_of b) + pages_for (length v) ≤ 255
unfolding node_needs
file_free b h ns s n locked date v e l =
    let f = sound_facts_lem h in
    let a = walk_needs ns (tree_of b).root s e in
    let k = lookup_needs n s (file_node locked date v) l in
    omega (arith, free_number_lem f, free_sum f, (valid_sized b f.fits).high)
