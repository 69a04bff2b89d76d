-- A path of one name more, put together: the directory's bytes, a slash and the name; the root's path is its slash.
use mathlib.Core.Path.{◌≡◌, refl, sym, ap, ◌∙◌}
use Prim.Native.Nat.{ℕ, suc, ◌+◌, ◌≤◌}
use native.Mathlib.Omega.{arith}
use mathlib.Core.Bool.{Bool, true, false, not, ◌&&◌}
use mathlib.Core.List.{List, [], ◌∷◌, ◌++◌}
use lib.ListN.{length, set, length-append}
use lib.Dec.{T, eqb}
use Rattle.volume.specs.Bytes.{Bytes, put}
use Rattle.std.specs.Prelude.{if◌then◌else◌}
use Rattle.volume.specs.Lists.{all}
use Rattle.model.specs.Name.{legal_text}
use Rattle.model.specs.Path.{Name, no_path, root, texts, names_from, path_to, path_of, is_no_path, is_root}
use Rattle.family.specs.Family.{onward}
use Rattle.link_numbers.proofs.Puts.{put_cons, put_after}
use Rattle.link_files.proofs.Depth.{texts_long, some_texts, names_long}

-- ---- a path

pub name_put : (at : ℕ) (name b b' : Bytes) → at + 1 + length name ≤ length b → b' ≡ put (at + 1) name (set b at 0x2F) → b' ≡ put at (0x2F ∷ name) b
name_put at name b b' l e = e ∙ sym (put_cons at 0x2F name b (omega arith))

-- a path of one byte is the root's, and no other is
pub onward_root : (d name : Bytes) → T (not (is_no_path (path_of d))) → length d ≡ 1 → onward d name ≡ 0x2F ∷ name
unfolding onward path_of is_no_path is_root
onward_root [] name h l = absurd h
onward_root (c ∷ []) name h l = go (eqb c 0x2F) h
  where
    go : (z : Bool) → T (not (is_no_path (if z then root else no_path))) → (if is_root (if z then root else no_path) then 0x2F ∷ name else c ∷ 0x2F ∷ name) ≡ 0x2F ∷ name
    go true k = refl
    go false k = absurd k
onward_root (c ∷ e ∷ r) name h l = absurd (omega arith)

below_root : (ns : List Name) → (length ns ≡ 0 → ⊥) → is_root (path_to ns) ≡ false
unfolding path_to is_root
below_root [] h = absurd (h refl)
below_root (n ∷ ns) h = refl

pub onward_below : (d name : Bytes) → T (not (is_no_path (path_of d))) → (length d ≡ 1 → ⊥) → onward d name ≡ d ++ (0x2F ∷ name)
unfolding onward path_of is_no_path
onward_below [] name h l = absurd h
onward_below (c ∷ []) name h l = absurd (l refl)
onward_below (c ∷ e ∷ r) name h l = go (eqb c 0x2F && all legal_text (texts (e ∷ r))) h
  where
    some_names : length (names_from 1 (texts (e ∷ r))) ≡ 0 → ⊥
    some_names z = some_texts (texts (e ∷ r)) (suc (length r)) (texts_long (e ∷ r)) (sym (names_long 1 (texts (e ∷ r))) ∙ z)

    go : (z : Bool) → T (not (is_no_path (if z then path_to (names_from 1 (texts (e ∷ r))) else no_path)))
        → (if is_root (if z then path_to (names_from 1 (texts (e ∷ r))) else no_path) then 0x2F ∷ name else c ∷ e ∷ (r ++ (0x2F ∷ name))) ≡ c ∷ e ∷ (r ++ (0x2F ∷ name))
    go true k = rw (below_root (names_from 1 (texts (e ∷ r))) some_names) refl
    go false k = absurd k

-- the directory's bytes, then a slash and the name
pub below_put : (d name b b₁ b₂ : Bytes) → T (not (is_no_path (path_of d))) → (length d ≡ 1 → ⊥) → length d + 1 + length name ≤ length b
    → b₁ ≡ put 0 d b → b₂ ≡ put (length d) (0x2F ∷ name) b₁ → (length d + 1 + length name ≡ length (onward d name)) × (b₂ ≡ put 0 (onward d name) b)
below_put d name b b₁ b₂ h l k e f =
    let o = onward_below d name h l in
    let n : length (onward d name) ≡ length d + suc (length name) = ap length o ∙ length-append d (0x2F ∷ name) in
    let z : 0 + length d ≡ length d = omega arith in (
      omega (arith, n),
      f ∙ ap (put (length d) (0x2F ∷ name)) e ∙ ap (λ (j : ℕ). put j (0x2F ∷ name) (put 0 d b)) (sym z)
          ∙ put_after 0 d (0x2F ∷ name) b (omega arith) ∙ ap (λ (v : Bytes). put 0 v b) (sym o),
    )

pub root_put : (d name b b' : Bytes) → T (not (is_no_path (path_of d))) → length d ≡ 1 → b' ≡ put 0 (0x2F ∷ name) b
    → (0 + 1 + length name ≡ length (onward d name)) × (b' ≡ put 0 (onward d name) b)
root_put d name b b' h l e =
    let o = onward_root d name h l in
    let n : length (onward d name) ≡ suc (length name) = ap length o in
    (omega (arith, n), e ∙ ap (λ (v : Bytes). put 0 v b) (sym o))
