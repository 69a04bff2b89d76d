-- A walk from a directory on hangs on that directory's row alone, and a change below it changes that row and the pages needed by as much.
use mathlib.Core.Path.{◌≡◌, refl, ap, ◌∙◌}
use Prim.Native.Nat.{◌+◌}
use native.Mathlib.Omega.{arith}
use mathlib.Core.Bool.{Bool, true, false}
use mathlib.Core.Option.{Option, some, none-ne-some}
use mathlib.Core.List.{List, [], ◌∷◌, ◌++◌}
use lib.ListN.{length}
use Rattle.volume.specs.Bytes.{Bytes, same}
use Rattle.std.specs.Prelude.{if◌then◌else◌}
use Rattle.model.specs.Layout.{pages_for}
use Rattle.model.specs.Tree.{Row, end, free, file, dir, needs, Node, file_node, directory_node, lookup, inside, needs_of}
use Rattle.model.specs.Path.{Name}
use Rattle.model.specs.Walk.{arrived, enter, walk, change_at}
pub use Rattle.view_laws.proofs.Rows.{walk_changed}
use Rattle.view_laws.proofs.Rows.{entered, no_file}

-- ---- walks

pub walk_append : (xs ys : List Name) (r s : Row) → walk xs r ≡ arrived s → walk (xs ++ ys) r ≡ walk ys s
unfolding walk enter
walk_append [] ys r s e = let q : r ≡ s = cc e in ap (walk ys) q
walk_append (x ∷ xs) ys r s e =
    let q = entered x (lookup x.bytes r) (walk xs) s e in
    ap (λ (o : Option Node). enter x o (walk (xs ++ ys))) q.2 ∙ walk_append xs ys q.1 s q.3

pub change_append : (xs ys : List Name) (f : Row → Row) (r : Row) → change_at (xs ++ ys) f r ≡ change_at xs (change_at ys f) r
unfolding change_at
change_append [] ys f r = refl
change_append (x ∷ xs) ys f r = ap (λ (g : Row → Row). inside x.bytes g r) (λ i q. change_append xs ys f q i)

-- ---- one directory of a row changed

needs_inside : (n : Bytes) (f : Row → Row) (r : Row) (d : Bytes) (u : Row) → lookup n r ≡ some (directory_node d u) → needs (inside n f r) + needs u ≡ needs r + needs (f u)
unfolding lookup inside needs_of
needs_inside n f end d u e = absurd (none-ne-some _ e)
needs_inside n f (free r) d u e = needs_inside n f r d u e
needs_inside n f (file l m k v r) d u e = go (same m n) e (needs_inside n f r d u)
  where
    go : (z : Bool) → (if z then some (file_node l k v) else lookup n r) ≡ some (directory_node d u)
        → (lookup n r ≡ some (directory_node d u) → needs (inside n f r) + needs u ≡ needs r + needs (f u))
        → pages_for (length v) + needs (inside n f r) + needs u ≡ pages_for (length v) + needs r + needs (f u)
    go true q next = absurd (no_file l k v d u q)
    go false q next = let i = next q in omega arith
needs_inside n f (dir m k s r) d u e = go (same m n) e (needs_inside n f r d u)
  where
    go : (z : Bool) → (if z then some (directory_node k s) else lookup n r) ≡ some (directory_node d u)
        → (lookup n r ≡ some (directory_node d u) → needs (inside n f r) + needs u ≡ needs r + needs (f u))
        → needs (if z then dir m k (f s) r else dir m k s (inside n f r)) + needs u ≡ 1 + needs s + needs r + needs (f u)
    go true q next = let x : s ≡ u = cc q in rw x (omega arith)
    go false q next = let i = next q in omega arith

-- ---- the directory that the names lead to changed

pub needs_changed : (xs : List Name) (f : Row → Row) (r s : Row) → walk xs r ≡ arrived s → needs (change_at xs f r) + needs s ≡ needs r + needs (f s)
unfolding walk change_at
needs_changed [] f r s e = let q : r ≡ s = cc e in rw q (omega arith)
needs_changed (x ∷ xs) f r s e =
    let q = entered x (lookup x.bytes r) (walk xs) s e in
    omega (arith, needs_inside x.bytes (change_at xs f) r q.0 q.1 q.2, needs_changed xs f q.1 s q.3)
