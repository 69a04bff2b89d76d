-- The names of a path, one by one: each but the last is one step of the walk, and what is left is a path again.
use mathlib.Core.Path.{◌≡◌, refl, sym, ap, ap₂, subst, ◌∙◌}
use mathlib.Core.Logic.{◌≢◌}
use Prim.Native.Nat.{ℕ, ◌+◌, ◌-◌, ◌≤◌, ◌<◌}
use native.Mathlib.Omega.{arith}
use mathlib.Core.Bool.{Bool, true, false, not, ◌&&◌, true≢false}
use mathlib.Core.Option.{Option, none, some, map}
use mathlib.Core.List.{List, [], ◌∷◌, drop_last}
use lib.ListN.{length, take, drop, length-take, length-drop}
use lib.Dec.{T, eqb}
use Rattle.volume.specs.Bytes.{Bytes}
use Rattle.std.specs.Prelude.{if◌then◌else◌}
use Rattle.volume.specs.Lists.{all, last_or}
use Rattle.volume.proofs.Tests.{and_both}
use Rattle.model.specs.Name.{legal_text, padded}
use Rattle.model.specs.Entry.{Entry, vacant, a_file, a_directory}
use Rattle.model.specs.View.{View}
use Rattle.model.specs.Path.{Name, Path, no_path, root, below, before, texts, names_from, path_to, path_of, is_no_path, parents}
use Rattle.model.specs.Walk.{Walked, arrived, missing, blocked, in_walked, entry_named, enter_on, walk_on}
use Rattle.model.proofs.Bounds.{text_fits}
use Rattle.names.specs.Texts.{text_length}
use Rattle.names.proofs.Paths.{text_more, text_last, legal_more, legal_last}
use Rattle.paths.specs.Steps.{entered, name_in, last, walked_parent}

-- what is left of a path from the byte on at which its next name begins
abbrev rest : Bytes → (from : ℕ) → Path
rest path from = path_to (names_from from (texts (drop from path)))

-- ---- a path of one name, and of more

texts_one : (r : Bytes) → 1 ≤ length (texts r)
unfolding texts before
texts_one [] = omega arith
texts_one (c ∷ r) = go (eqb c 0x2F) (texts r)
  where
    go : (z : Bool) (vs : List Bytes) → 1 ≤ length (if z then [] ∷ vs else before c vs)
    go true vs = omega arith
    go false [] = omega arith
    go false (v ∷ vs) = omega arith

names_one : (i : ℕ) (vs : List Bytes) → 1 ≤ length vs → 1 ≤ length (names_from i vs)
unfolding names_from
names_one i [] h = h
names_one i (v ∷ vs) h = omega arith

path_more : (n : Name) (ns : List Name) → 1 ≤ length ns → (parents (path_to (n ∷ ns)) ≡ n ∷ parents (path_to ns)) × (last (path_to (n ∷ ns)) ≡ last (path_to ns))
unfolding path_to last_or
path_more n [] h = absurd (omega arith)
path_more n (m ∷ ns) h = (refl, refl)

-- the name that begins at `from` ends at `to`
module _ (path : Bytes) (from to : ℕ) (low : from ≤ length path) (is : to ≡ from + text_length (drop from path)) where
  rest_last : to ≡ length path → rest path from ≡ below [] (name_in path from to)
  unfolding path_to names_from last_or
  rest_last e = rw (text_last path from to is low e)

  module _ (h : to < length path) where
    long : from + length (take (to - from) (drop from path)) + 1 ≡ to + 1
    long = omega (arith, length-take (to - from) (drop from path), length-drop from path)

    next_names : names_from from (texts (drop from path)) ≡ name_in path from to ∷ names_from (to + 1) (texts (drop (to + 1) path))
    unfolding names_from
    next_names = rw (text_more path from to is h, long)

    rest_more : (parents (rest path from) ≡ name_in path from to ∷ parents (rest path (to + 1))) × (last (rest path from) ≡ last (rest path (to + 1)))
    rest_more = rw next_names (path_more (name_in path from to) (names_from (to + 1) (texts (drop (to + 1) path)))
        (names_one (to + 1) (texts (drop (to + 1) path)) (texts_one (drop (to + 1) path))))

-- ---- one step, and then the others

enter_then : (n : Name) (o : Option Entry) (on : ℕ → Walked ℕ) → enter_on n o on ≡ in_walked (enter_on n o arrived) on
unfolding enter_on in_walked
enter_then n none on = refl
enter_then n (some vacant) on = refl
enter_then n (some (a_file locked name date start size)) on = refl
enter_then n (some (a_directory name date start size)) on = refl

walk_step : (v : View) (n : Name) (ns : List Name) (p : ℕ) → walk_on v (n ∷ ns) p ≡ in_walked (entered v n p) (walk_on v ns)
unfolding walk_on
walk_step v n ns p = enter_then n (map v.entry_at (entry_named v p n.bytes)) (walk_on v ns)

-- ---- where the walk of a path stands: in the directory p, before the name that begins at `from`

pub record Standing (v : View) (path : Bytes) (p from : ℕ) : Type 0 where
  pub low : from ≤ length path
  pub legal : T (all legal_text (texts (drop from path)))
  pub left : walked_parent v (rest path from) p ≡ walked_parent v (path_of path) 0

path_names : (path : Bytes) → 2 ≤ length path → T (not (is_no_path (path_of path))) → T (all legal_text (texts (drop 1 path))) × (rest path 1 ≡ path_of path)
unfolding path_of is_no_path
path_names [] l h = absurd (omega arith)
path_names (c ∷ []) l h = absurd (omega arith)
path_names (c ∷ d ∷ r) l h = go (eqb c 0x2F) (all legal_text (texts (d ∷ r))) (path_to (names_from 1 (texts (d ∷ r)))) h
  where
    go : (x y : Bool) (q : Path) → T (not (is_no_path (if x && y then q else no_path))) → T y × (q ≡ (if x && y then q else no_path))
    go true true q k = (tt, refl)
    go true false q k = absurd k
    go false y q k = absurd k

-- a path of two bytes or more has a last name
pub path_below : (path : Bytes) → 2 ≤ length path → T (not (is_no_path (path_of path))) → (ns : List Name) × (n : Name) × (path_of path ≡ below ns n)
unfolding path_to
path_below path l h = go (names_from 1 (texts (drop 1 path))) (names_one 1 (texts (drop 1 path)) (texts_one (drop 1 path))) (path_names path l h).1
  where
    go : (ms : List Name) → 1 ≤ length ms → path_to ms ≡ path_of path → (ns : List Name) × (n : Name) × (path_of path ≡ below ns n)
    go [] k e = absurd (omega arith)
    go (m ∷ ms) k e = (drop_last (m ∷ ms), last_or m ms, sym e)

-- one of one byte is the root, and any other that is one has two or more
pub path_root : (path : Bytes) → not (is_no_path (path_of path)) ≡ true → length path ≡ 1 → path_of path ≡ root
unfolding path_of is_no_path
path_root [] e l = absurd (omega (arith, l))
path_root (c ∷ []) e l = go (eqb c 0x2F) e
  where
    go : (z : Bool) → not (is_no_path (if z then root else no_path)) ≡ true → (if z then root else no_path) ≡ root
    go true e = refl
    go false e = let bad : ◌≡◌ {A = Bool} true false = sym e in absurd (true≢false bad)
path_root (c ∷ d ∷ r) e l = absurd (omega (arith, l))

pub path_long : (path : Bytes) → not (is_no_path (path_of path)) ≡ true → (length path ≡ 1 → ⊥) → 2 ≤ length path
unfolding path_of is_no_path
path_long [] e h = let bad : ◌≡◌ {A = Bool} true false = sym e in absurd (true≢false bad)
path_long (c ∷ []) e h = absurd (h refl)
path_long (c ∷ d ∷ r) e h = omega arith

pub standing_first : (v : View) (path : Bytes) (p : ℕ) → p ≡ 0 → 2 ≤ length path → not (is_no_path (path_of path)) ≡ true → Standing v path p 1
standing_first v path p start l h =
    let q = path_names path l (subst T (sym h) tt) in
    record { low = omega arith; legal = q.0; left = ap₂ (λ (x : Path) (z : ℕ). walked_parent v x z) q.1 start }

-- the next name ends at `to`
module _ {v : View} {path : Bytes} {p from : ℕ} (s : Standing v path p from) (to : ℕ) (is : to ≡ from + text_length (drop from path)) where
  pub standing_short : to ≡ length path → length path - from ≤ 16
  standing_short e =
      let short = text_fits _ (rw (legal_last path from to is s.low e) at s.legal) in
      omega (arith, e, short, length-take (to - from) (drop from path), length-drop from path)

  pub standing_last : to ≡ length path → arrived (p, name_in path from (length path)) ≡ walked_parent v (path_of path) 0
  unfolding walk_on in_walked
  standing_last e =
      ap (λ k. arrived (p, name_in path from k)) (sym e) ∙ ap (λ (x : Path). walked_parent v x p) (sym (rest_last path from to s.low is e)) ∙ s.left

  module _ (most : to ≤ length path) (more : to ≢ length path) where
    h : to < length path
    h = omega (arith, more)

    legal : T (legal_text (take (to - from) (drop from path))) × T (all legal_text (texts (drop (to + 1) path)))
    legal = and_both (legal_text (take (to - from) (drop from path))) _ (rw (legal_more path from to is h) at s.legal)

    pub standing_fits : length (take (to - from) (drop from path)) ≤ 16
    standing_fits = text_fits _ legal.0

    stepped : in_walked (in_walked (entered v (name_in path from to) p) (walk_on v (parents (rest path (to + 1)))))
        (λ q. arrived (q, last (rest path (to + 1)))) ≡ walked_parent v (path_of path) 0
    stepped =
        let r = rest_more path from to s.low is h in
        ap (λ (w : Walked ℕ). in_walked w (λ q. arrived (q, last (rest path (to + 1)))))
        (sym (walk_step v (name_in path from to) (parents (rest path (to + 1))) p))
        ∙ ap₂ (λ (ns : List Name) (n : Name). in_walked (walk_on v ns p) (λ q. arrived (q, n))) (sym r.0) (sym r.1) ∙ s.left

    -- one turn: the name has these bytes, and the step's answer is w
    module _ {bytes : Bytes} (name : bytes ≡ padded (take (to - from) (drop from path))) {w : Walked ℕ}
        (step : w ≡ entered v (record { begins = from; bytes = bytes }) p) where
      gone : in_walked (in_walked w (walk_on v (parents (rest path (to + 1))))) (λ q. arrived (q, last (rest path (to + 1)))) ≡ walked_parent v (path_of path) 0
      gone =
          let stands : w ≡ entered v (name_in path from to) p = step ∙ ap (λ (x : Bytes). entered v (record { begins = from; bytes = x }) p) name in
          rw stands stepped

      pub standing_next : {q : ℕ} → w ≡ arrived q → Standing v path q (to + 1)
      unfolding in_walked
      standing_next e = record { low = omega (arith, h); legal = legal.1; left = rw e at gone }

      pub standing_missing : {byte : ℕ} → w ≡ missing byte → missing byte ≡ walked_parent v (path_of path) 0
      unfolding in_walked
      standing_missing e = rw e at gone

      pub standing_blocked : {byte : ℕ} → w ≡ blocked byte → blocked byte ≡ walked_parent v (path_of path) 0
      unfolding in_walked
      standing_blocked e = rw e at gone
