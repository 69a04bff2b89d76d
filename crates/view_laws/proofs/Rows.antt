-- The directory that some names lead to, changed: the names lead to it as before, and two changes of it are one.
use mathlib.Core.Path.{◌≡◌, refl, sym, ap, ◌∙◌, subst}
use Prim.Native.Nat.{ℕ, zero, suc, ◌+◌, ◌≤◌}
use native.Mathlib.Omega.{arith}
use mathlib.Core.Bool.{Bool, true, false, not}
use mathlib.Core.Option.{Option, none, some, none-ne-some}
use mathlib.Core.List.{List, [], ◌∷◌}
use lib.Dec.{T, eqb, eqb→eq, not_T}
use Rattle.volume.specs.Bytes.{Bytes, same}
use Rattle.std.specs.Prelude.{if◌then◌else◌}
use Rattle.model.specs.Tree.{Row, end, free, file, dir, empty_row, width, held, is_full, Node, file_node, directory_node, lookup, extend, inside}
use Rattle.model.specs.Path.{Name}
use Rattle.model.specs.Walk.{Walked, arrived, enter, walk, change_at}
use Rattle.model.specs.Refusal.{is_missing, is_blocked, is_directory_node}

-- ---- one directory of a row

-- a walk that arrives entered a directory
pub entered : (n : Name) (o : Option Node) (on : Row → Walked Row) (s : Row) → enter n o on ≡ arrived s
    → (d : Bytes) × (r : Row) × (o ≡ some (directory_node d r)) × (on r ≡ arrived s)
unfolding enter is_missing is_blocked
entered n none on s e = absurd (subst (λ (w : Walked Row). T (is_missing w)) e tt)
entered n (some (file_node l d v)) on s e = absurd (subst (λ (w : Walked Row). T (is_blocked w)) e tt)
entered n (some (directory_node d r)) on s e = (d, r, refl, e)

pub no_file : (l : Bool) (k v d : Bytes) (u : Row) → some (file_node l k v) ≡ some (directory_node d u) → ⊥
unfolding is_directory_node
no_file l k v d u e = let bad : file_node l k v ≡ directory_node d u = cc e in subst (λ (x : Node). T (not (is_directory_node x))) bad tt

lookup_inside : (n : Bytes) (f : Row → Row) (r : Row) (d : Bytes) (u : Row) → lookup n r ≡ some (directory_node d u)
    → lookup n (inside n f r) ≡ some (directory_node d (f u))
unfolding lookup inside
lookup_inside n f end d u e = absurd (none-ne-some _ e)
lookup_inside n f (free r) d u e = lookup_inside n f r d u e
lookup_inside n f (file l m k v r) d u e = go (same m n) e (lookup_inside n f r d u)
  where
    go : (z : Bool) → (if z then some (file_node l k v) else lookup n r) ≡ some (directory_node d u)
        → (lookup n r ≡ some (directory_node d u) → lookup n (inside n f r) ≡ some (directory_node d (f u)))
        → (if z then some (file_node l k v) else lookup n (inside n f r)) ≡ some (directory_node d (f u))
    go true q next = absurd (no_file l k v d u q)
    go false q next = next q
lookup_inside n f (dir m k s r) d u e = go (same m n) refl e (lookup_inside n f r d u)
  where
    go : (z : Bool) → same m n ≡ z → (if z then some (directory_node k s) else lookup n r) ≡ some (directory_node d u)
        → (lookup n r ≡ some (directory_node d u) → lookup n (inside n f r) ≡ some (directory_node d (f u)))
        → lookup n (if z then dir m k (f s) r else dir m k s (inside n f r)) ≡ some (directory_node d (f u))
    go true h q next =
        let e₁ : k ≡ d = cc q in
        let e₂ : s ≡ u = cc q in
        rw h (λ i. some (directory_node (e₁ i) (f (e₂ i))))
    go false h q next = rw h (next q)

-- what is done to the one directory is all that is done
inside_same : (n : Bytes) (f g : Row → Row) (r : Row) (d : Bytes) (u : Row) → lookup n r ≡ some (directory_node d u) → f u ≡ g u
    → inside n f r ≡ inside n g r
unfolding lookup inside
inside_same n f g end d u e q = refl
inside_same n f g (free r) d u e q = ap (λ (x : Row). free x) (inside_same n f g r d u e q)
inside_same n f g (file l m k v r) d u e q = go (same m n) e (λ h. inside_same n f g r d u h q)
  where
    go : (z : Bool) → (if z then some (file_node l k v) else lookup n r) ≡ some (directory_node d u)
        → (lookup n r ≡ some (directory_node d u) → inside n f r ≡ inside n g r) → file l m k v (inside n f r) ≡ file l m k v (inside n g r)
    go true h next = absurd (no_file l k v d u h)
    go false h next = ap (λ (x : Row). file l m k v x) (next h)
inside_same n f g (dir m k s r) d u e q = go (same m n) e (λ h. inside_same n f g r d u h q)
  where
    go : (z : Bool) → (if z then some (directory_node k s) else lookup n r) ≡ some (directory_node d u)
        → (lookup n r ≡ some (directory_node d u) → inside n f r ≡ inside n g r)
        → (if z then dir m k (f s) r else dir m k s (inside n f r)) ≡ (if z then dir m k (g s) r else dir m k s (inside n g r))
    go true h next = let x : s ≡ u = cc h in ap (λ (y : Row). dir m k y r) (ap f x ∙ q ∙ ap g (sym x))
    go false h next = ap (λ (y : Row). dir m k s y) (next h)

inside_none : (n : Bytes) (r : Row) → inside n (λ s. s) r ≡ r
unfolding inside
inside_none n end = refl
inside_none n (free r) = ap (λ (x : Row). free x) (inside_none n r)
inside_none n (file l m k v r) = ap (λ (x : Row). file l m k v x) (inside_none n r)
inside_none n (dir m k s r) = go (same m n) (inside_none n r)
  where
    go : (z : Bool) → inside n (λ s. s) r ≡ r → (if z then dir m k s r else dir m k s (inside n (λ s. s) r)) ≡ dir m k s r
    go true next = refl
    go false next = ap (λ (y : Row). dir m k s y) next

inside_twice : (n : Bytes) (f g : Row → Row) (r : Row) → inside n g (inside n f r) ≡ inside n (λ s. g (f s)) r
unfolding inside
inside_twice n f g end = refl
inside_twice n f g (free r) = ap (λ (x : Row). free x) (inside_twice n f g r)
inside_twice n f g (file l m k v r) = ap (λ (x : Row). file l m k v x) (inside_twice n f g r)
inside_twice n f g (dir m k s r) = go (same m n) refl (inside_twice n f g r)
  where
    go : (z : Bool) → same m n ≡ z → inside n g (inside n f r) ≡ inside n (λ s. g (f s)) r
        → inside n g (if z then dir m k (f s) r else dir m k s (inside n f r)) ≡ (if z then dir m k (g (f s)) r else dir m k s (inside n (λ s. g (f s)) r))
    go true h next = rw h refl
    go false h next = rw h (ap (λ (y : Row). dir m k s y) next)

-- ---- the directory that the names lead to

pub walk_changed : (xs : List Name) (f : Row → Row) (r s : Row) → walk xs r ≡ arrived s → walk xs (change_at xs f r) ≡ arrived (f s)
unfolding walk change_at enter
walk_changed [] f r s e = let q : r ≡ s = cc e in ap (λ (x : Row). arrived (f x)) q
walk_changed (x ∷ xs) f r s e =
    let q = entered x (lookup x.bytes r) (walk xs) s e in
    ap (λ (o : Option Node). enter x o (walk xs)) (lookup_inside x.bytes (change_at xs f) r q.0 q.1 q.2) ∙ walk_changed xs f q.1 s q.3

pub change_same : (xs : List Name) (f g : Row → Row) (r s : Row) → walk xs r ≡ arrived s → f s ≡ g s → change_at xs f r ≡ change_at xs g r
unfolding walk change_at enter
change_same [] f g r s e h = let q : r ≡ s = cc e in ap f q ∙ h ∙ ap g (sym q)
change_same (x ∷ xs) f g r s e h =
    let q = entered x (lookup x.bytes r) (walk xs) s e in
    inside_same x.bytes (change_at xs f) (change_at xs g) r q.0 q.1 q.2 (change_same xs f g q.1 s q.3 h)

-- a change that leaves it as it is
pub change_none : (xs : List Name) (f : Row → Row) (r s : Row) → walk xs r ≡ arrived s → f s ≡ s → change_at xs f r ≡ r
unfolding walk change_at enter
change_none [] f r s e h = let q : r ≡ s = cc e in ap f q ∙ h ∙ sym q
change_none (x ∷ xs) f r s e h =
    let q = entered x (lookup x.bytes r) (walk xs) s e in
    inside_same x.bytes (change_at xs f) (λ u. u) r q.0 q.1 q.2 (change_none xs f q.1 s q.3 h) ∙ inside_none x.bytes r

pub change_twice : (xs : List Name) (f g : Row → Row) (r : Row) → change_at xs g (change_at xs f r) ≡ change_at xs (λ s. g (f s)) r
unfolding change_at
change_twice [] f g r = refl
change_twice (x ∷ xs) f g r =
    inside_twice x.bytes (change_at xs f) (change_at xs g) r ∙ ap (λ (h : Row → Row). inside x.bytes h r) (λ i q. change_twice xs f g q i)

-- ---- free entries more at the end

held_empty : (n : ℕ) → (held (empty_row n) ≡ 0) × (width (empty_row n) ≡ n)
unfolding held width empty_row
held_empty zero = (refl, refl)
held_empty (suc n) = ((held_empty n).0, ap suc (held_empty n).1)

extend_many : (n : ℕ) (r : Row) → (held (extend n r) ≡ held r) × (width (extend n r) ≡ width r + n)
unfolding held width extend
extend_many n end = ((held_empty n).0, omega (arith, (held_empty n).1))
extend_many n (free r) = let i = extend_many n r in (i.0, omega (arith, i.1))
extend_many n (file l m d v r) = let i = extend_many n r in (ap suc i.0, omega (arith, i.1))
extend_many n (dir m d s r) = let i = extend_many n r in (ap suc i.0, omega (arith, i.1))

-- an entry that is held is one
pub held_few : (r : Row) → held r ≤ width r
unfolding held width
held_few end = omega arith
held_few (free r) = omega (arith, held_few r)
held_few (file l m d v r) = omega (arith, held_few r)
held_few (dir m d s r) = omega (arith, held_few r)

pub extend_roomy : (n : ℕ) (r : Row) → 1 ≤ n → T (not (is_full (extend n r)))
extend_roomy n r h = not_T (is_full (extend n r)) (λ t.
    omega (arith, eqb→eq (held (extend n r)) (width (extend n r)) t, (extend_many n r).0, (extend_many n r).1, held_few r))

lookup_empty : (k : Bytes) (n : ℕ) → lookup k (empty_row n) ≡ none
unfolding lookup empty_row
lookup_empty k zero = refl
lookup_empty k (suc n) = lookup_empty k n

pub extend_names : (k : Bytes) (n : ℕ) (r : Row) → lookup k (extend n r) ≡ lookup k r
unfolding lookup extend
extend_names k n end = lookup_empty k n
extend_names k n (free r) = extend_names k n r
extend_names k n (file l m d v r) = ap (λ (o : Option Node). if same m k then some (file_node l d v) else o) (extend_names k n r)
extend_names k n (dir m d s r) = ap (λ (o : Option Node). if same m k then some (directory_node d s) else o) (extend_names k n r)
