-- Names and paths are exact. Padding can be taken off again and texts can be put between slashes again, so a path's bytes follow from its names;
-- and a sound image has one way to each entry, since each page has one owner and no two entries of a directory have the same name.
use mathlib.Core.Path.{◌≡◌, refl, sym, ap, ap₂, ◌∙◌, subst}
use mathlib.Core.Logic.{◌⊎◌, inl, inr}
use Prim.Native.Nat.{ℕ, zero, suc, ◌+◌, ◌-◌, ◌≤◌}
use native.Mathlib.Omega.{arith}
use native.Mathlib.Decide.{ℕ_discrete}
use mathlib.Core.Bool.{Bool, true, false, not, ◌&&◌}
use mathlib.Core.Option.{Option, none, some, get_or, some-ne-none}
use mathlib.Core.List.{List, [], ◌∷◌, ◌++◌, drop_last, map, map-append}
use lib.ListN.{length, replicate}
use lib.Dec.{T, eqb, eqb→eq}
use Rattle.volume.specs.Bytes.{Bytes, same}
use Rattle.std.specs.Prelude.{if◌then◌else◌}
use Rattle.volume.specs.Lists.{all, last_or}
use Rattle.volume.proofs.Occ.{occ, hit, hit_refl}
use Rattle.volume.proofs.Tests.{and_both, same_true}
use Rattle.volume.proofs.Puts.{part_length}
use Rattle.model.specs.Layout.{page_count}
use Rattle.model.specs.Name.{legal_byte, legal_text, padded, unpadded}
use Rattle.model.specs.Entry.{occupied, is_directory, is_locked, name_at, start_at, size_at, date_at, vacant, a_file, a_directory, entry_at}
use Rattle.model.specs.Version1.{view}
use Rattle.model.specs.Sound.{is_named, owned, sound}
use Rattle.model.specs.Tree.{Row, end, free, file, dir, Node, file_node, directory_node, lookup}
use Rattle.model.specs.Path.{Name, Path, no_path, root, below, before, texts, names_from, path_to, path_of, is_no_path, is_root, names}
use Rattle.model.specs.Image.{row_at, tree_of, tree_in}
use Rattle.model.specs.Walk.{walk_to, entry_named, walk_on, arrived_or, entry_position}
use Rattle.model.specs.Call.{find, Found, granted}
use Rattle.model.specs.Refusal.{is_missing, is_blocked, refusals, Passes}
use Rattle.model.specs.Meaning.{is_format, lines, told, answer}
use Rattle.model.specs.Demands.{HeldAs, ExactNames}
use Rattle.model.specs.MeaningOf
use Rattle.model.specs.RefusalOf
use Rattle.laws.proofs.Facts.{Facts, root_once, valid_sized, sound_facts_lem}
use Rattle.laws.proofs.Entries.{Within, entry_within}
use Rattle.laws.proofs.Owns.{own_two}
use Rattle.laws.proofs.Focus.{DirectoryAt, Leads, named_found, own_directory, directory_le, leads_sub}
use Rattle.laws.proofs.Walks.{Target, target}
use Rattle.laws.proofs.Lines.{passed, granted_passed}
use Rattle.laws.proofs.Passed.{sound_passed}
use Rattle.laws.proofs.Names.{text_facts}
use Rattle.laws.proofs.Steps.{names_apart}

-- ---- padding

unpadded_zeros : (k : ℕ) → unpadded (replicate k 0) ≡ []
unfolding unpadded
unpadded_zeros zero = refl
unpadded_zeros (suc k) = refl

unpadded_text : (v : Bytes) (k : ℕ) → T (all legal_byte v) → unpadded (v ++ replicate k 0) ≡ v
unfolding all unpadded legal_byte
unpadded_text [] k h = unpadded_zeros k
unpadded_text (c ∷ v) k h =
    let r = and_both (legal_byte c) (all legal_byte v) h in
    go (eqb c 0) (eqb→eq c 0) r.0 (unpadded_text v k r.1)
  where
    go : (z : Bool) → (T z → c ≡ 0) → T (legal_byte c) → unpadded (v ++ replicate k 0) ≡ v → (if z then [] else c ∷ unpadded (v ++ replicate k 0)) ≡ c ∷ v
    go true e l r = absurd (subst (λ (x : ℕ). T (legal_byte x)) (e tt) l)
    go false e l r = ap (λ (x : Bytes). c ∷ x) r

pub unpadded_padded : (v : Bytes) → T (legal_text v) → unpadded (padded v) ≡ v
unfolding padded
unpadded_padded v h = unpadded_text v (16 - length v) (text_facts h).legal

pub padded_apart : (v w : Bytes) → T (legal_text v) → T (legal_text w) → padded v ≡ padded w → v ≡ w
padded_apart v w h k e = sym (unpadded_padded v h) ∙ ap unpadded e ∙ unpadded_padded w k

-- ---- a path's bytes from its names

-- each text behind a slash
unfoldable slashed : List Bytes → Bytes
slashed [] = []
slashed (v ∷ vs) = 0x2F ∷ (v ++ slashed vs)

slashed_texts : (r : Bytes) → slashed (texts r) ≡ 0x2F ∷ r
unfolding texts slashed before
slashed_texts [] = refl
slashed_texts (c ∷ r) = go (eqb c 0x2F) (eqb→eq c 0x2F) (texts r) (slashed_texts r)
  where
    go : (z : Bool) → (T z → c ≡ 0x2F) → (ts : List Bytes) → slashed ts ≡ 0x2F ∷ r → slashed (if z then [] ∷ ts else before c ts) ≡ 0x2F ∷ c ∷ r
    go true e ts q = ap (λ (x : Bytes). 0x2F ∷ x) (q ∙ ap (λ (x : ℕ). x ∷ r) (sym (e tt)))
    go false e [] q = absurd (omega (arith, ap length q))
    go false e (v ∷ vs) q = let tail : v ++ slashed vs ≡ r = cc q in ap (λ (x : Bytes). 0x2F ∷ c ∷ x) tail

abbrev plain : Name → Bytes
plain n = unpadded n.bytes

plain_names : (i : ℕ) (vs : List Bytes) → T (all legal_text vs) → map plain (names_from i vs) ≡ vs
unfolding all names_from
plain_names i [] h = refl
plain_names i (v ∷ vs) h =
    let r = and_both (legal_text v) (all legal_text vs) h in
    ap₂ {C = List Bytes} (λ (x : Bytes) (xs : List Bytes). x ∷ xs) (unpadded_padded v r.0) (plain_names (i + length v + 1) vs r.1)

names_split : (n : Name) (ns : List Name) → drop_last (n ∷ ns) ++ (last_or n ns ∷ []) ≡ n ∷ ns
unfolding last_or
names_split n [] = refl
names_split n (m ∷ ms) = ap (λ (l : List Name). n ∷ l) (names_split m ms)

names_path_to : (ns : List Name) → names (path_to ns) ≡ ns
unfolding path_to
names_path_to [] = refl
names_path_to (n ∷ ns) = names_split n ns

path_bytes : (p : Bytes) (ns : List Name) (n : Name) → path_of p ≡ below ns n → p ≡ slashed (map plain (ns ++ (n ∷ [])))
unfolding path_of is_no_path is_root
path_bytes [] ns n e = absurd (subst (λ (x : Path). T (is_no_path x)) e tt)
path_bytes (c ∷ []) ns n e = go (eqb c 0x2F) e
  where
    go : (z : Bool) → (if z then root else no_path) ≡ below ns n → c ∷ [] ≡ slashed (map plain (ns ++ (n ∷ [])))
    go true u = absurd (subst (λ (x : Path). T (is_root x)) u tt)
    go false u = absurd (subst (λ (x : Path). T (is_no_path x)) u tt)
path_bytes (c ∷ d ∷ r) ns n e = go (eqb c 0x2F && all legal_text (texts (d ∷ r))) (and_both (eqb c 0x2F) (all legal_text (texts (d ∷ r)))) e
  where
    go : (z : Bool) → (T z → T (eqb c 0x2F) × T (all legal_text (texts (d ∷ r)))) → (if z then path_to (names_from 1 (texts (d ∷ r))) else no_path) ≡ below ns n
        → c ∷ d ∷ r ≡ slashed (map plain (ns ++ (n ∷ [])))
    go true f u =
        ap (λ (x : ℕ). x ∷ d ∷ r) (eqb→eq c 0x2F (f tt).0) ∙ sym (slashed_texts (d ∷ r))
        ∙ ap slashed (sym (plain_names 1 (texts (d ∷ r)) (f tt).1) ∙ ap (map plain) (sym (names_path_to (names_from 1 (texts (d ∷ r)))) ∙ ap names u))
    go false f u = absurd (subst (λ (x : Path). T (is_no_path x)) u tt)

root_bytes : (p : Bytes) → path_of p ≡ root → p ≡ 0x2F ∷ []
unfolding path_of is_no_path is_root slashed path_to names_from
root_bytes [] e = absurd (subst (λ (x : Path). T (is_no_path x)) e tt)
root_bytes (c ∷ []) e = go (eqb c 0x2F) (eqb→eq c 0x2F) e
  where
    go : (z : Bool) → (T z → c ≡ 0x2F) → (if z then root else no_path) ≡ root → c ∷ [] ≡ 0x2F ∷ []
    go true f u = ap (λ (x : ℕ). x ∷ []) (f tt)
    go false f u = absurd (subst (λ (x : Path). T (is_no_path x)) u tt)
root_bytes (c ∷ d ∷ r) e = go (eqb c 0x2F && all legal_text (texts (d ∷ r))) (texts (d ∷ r)) (slashed_texts (d ∷ r)) e
  where
    go : (z : Bool) (ts : List Bytes) → slashed ts ≡ 0x2F ∷ d ∷ r → (if z then path_to (names_from 1 ts) else no_path) ≡ root → c ∷ d ∷ r ≡ 0x2F ∷ []
    go true [] q u = absurd (omega (arith, ap length q))
    go true (v ∷ vs) q u = absurd (subst (λ (x : Path). T (not (is_root x))) u tt)
    go false ts q u = absurd (subst (λ (x : Path). T (is_no_path x)) u tt)

-- ---- what is found for a name

lookup_exact : (n : Bytes) (r : Row) (x : Node) → lookup n r ≡ some x → HeldAs n x r
unfolding lookup
lookup_exact n end x e = absurd (some-ne-none x (sym e))
lookup_exact n (free r) x e = lookup_exact n r x e
lookup_exact n (file l m d v r) x e = go (same m n) (same_true m n) e (lookup_exact n r x)
  where
    go : (c : Bool) → (T c → m ≡ n) → (if c then some (file_node l d v) else lookup n r) ≡ some x → (lookup n r ≡ some x → HeldAs n x r) → HeldAs n x (file l m d v r)
    go true s u next = inl (s tt, cc u)
    go false s u next = inr (next u)
lookup_exact n (dir m d s r) x e = go (same m n) (same_true m n) e (lookup_exact n r x)
  where
    go : (c : Bool) → (T c → m ≡ n) → (if c then some (directory_node d s) else lookup n r) ≡ some x → (lookup n r ≡ some x → HeldAs n x r) → HeldAs n x (dir m d s r)
    go true q u next = inl (q tt, cc u)
    go false q u next = inr (next u)

named_exact : (b n : Bytes) (at : ℕ) → T (is_named n (entry_at b at)) → T (occupied b at) × (name_at b at ≡ n)
unfolding entry_at is_named
named_exact b n at h = go (occupied b at) (is_directory b at) h
  where
    go : (o d : Bool)
        → T (is_named n (if o then (if d then a_directory (name_at b at) (date_at b at) (start_at b at) (size_at b at)
        else a_file (is_locked b at) (name_at b at) (date_at b at) (start_at b at) (size_at b at)) else vacant))
        → T o × (name_at b at ≡ n)
    go true true k = (tt, same_true (name_at b at) n k)
    go true false k = (tt, same_true (name_at b at) n k)
    go false d k = absurd k

found_exact : (b : Bytes) (page : ℕ) (n : Bytes) (at : ℕ) → entry_named (view b) page n ≡ some at → T (occupied b at) × (name_at b at ≡ n)
found_exact b page n at e = named_exact b n at (named_found b page n at e).1

-- ---- one way to each entry

found_same : (b : Bytes) (page : ℕ) (n m : Bytes) (at : ℕ) → entry_named (view b) page n ≡ some at → entry_named (view b) page m ≡ some at → n ≡ m
found_same b page n m at e u = sym (found_exact b page n at e).1 ∙ (found_exact b page m at u).1

directory_page : {b : Bytes} {at s s' : ℕ} → DirectoryAt b at s → DirectoryAt b at s' → s ≡ s'
directory_page h k = let u = h.is in let v = k.is in cc

-- no names lead from a directory back to it
no_return : (b : Bytes) (n : Name) (ns : List Name) (d p e t : ℕ) → ((q : ℕ) → occ q (p ∷ owned (suc d) (view b) p) ≤ 1) → p ≡ t → Leads b (suc d) p (n ∷ ns) e t → ⊥
no_return b n ns d p e t one r l =
    let le = directory_le d b p l.0 l.1 t (named_found b p n.bytes l.0 l.2).0 l.3 in
    omega (arith, le, leads_sub b ns d l.1 e t t l.4, hit_refl t, one t, ap (λ (x : ℕ). hit t x) r)

-- names that lead to one directory
leads_once : (b : Bytes) (ns ms : List Name) (d p e e' t : ℕ) → ((q : ℕ) → occ q (p ∷ owned d (view b) p) ≤ 1)
    → Leads b d p ns e t → Leads b d p ms e' t → map plain ns ≡ map plain ms
leads_once b [] [] d p e e' t one l k = refl
leads_once b [] (m ∷ ms) zero p e e' t one l k = absurd k
leads_once b [] (m ∷ ms) (suc d) p e e' t one l k = absurd (no_return b m ms d p e' t one l.1 k)
leads_once b (n ∷ ns) [] zero p e e' t one l k = absurd l
leads_once b (n ∷ ns) [] (suc d) p e e' t one l k = absurd (no_return b n ns d p e t one k.1 l)
leads_once b (n ∷ ns) (m ∷ ms) zero p e e' t one l k = absurd l
leads_once b (n ∷ ns) (m ∷ ms) (suc d) p e e' t one l k =
    let here = (named_found b p n.bytes l.0 l.2).0 in
    let there = (named_found b p m.bytes k.0 k.2).0 in
    let at : l.0 ≡ k.0 = elim (ℕ_discrete l.0 k.0) [
      | yes u ↦ u
      | no u ↦ absurd (omega (
        arith,
        own_two d b p l.0 k.0 t u here there,
        ap (occ t) (own_directory d b l.0 l.1 l.3),
        ap (occ t) (own_directory d b k.0 k.1 k.3),
        leads_sub b ns d l.1 e t t l.4,
        leads_sub b ms d k.1 e' t t k.4,
        hit_refl t,
        one t,
      ))
    ] in
    let s : l.1 ≡ k.1 = directory_page l.3 (subst (λ (x : ℕ). DirectoryAt b x k.1) (sym at) k.3) in
    let name : n.bytes ≡ m.bytes = found_same b p n.bytes m.bytes l.0 l.2 (k.2 ∙ ap some (sym at)) in
    let rest = leads_once b ns ms d l.1 e e' t (λ q. omega (arith, directory_le d b p l.0 l.1 q here l.3, one q)) l.4
    (subst (λ (x : ℕ). Leads b d x ms e' t) (sym s) k.4) in
    ap₂ {C = List Bytes} (λ (x : Bytes) (xs : List Bytes). x ∷ xs) (ap unpadded name) rest

module _ {b : Bytes} (f : Facts b) where
  within : {ns : List Name} {n : Name} (g : Target b ns n) → Within g.above.t g.at
  within {ns} {n} g = entry_within g.above.t g.at (named_found b g.above.t n.bytes g.at g.found).0

  -- names that lead to one entry
  names_once : {ns : List Name} {n : Name} {ms : List Name} {m : Name} (g : Target b ns n) (h : Target b ms m) → g.at ≡ h.at
      → map plain (ns ++ (n ∷ [])) ≡ map plain (ms ++ (m ∷ []))
  names_once {ns} {n} {ms} {m} g h e =
      let u = within g in
      let v = within h in
      let page : g.above.t ≡ h.above.t = omega (arith, e, u.low, u.high, v.low, v.high) in
      let l = leads_once b ns ms (page_count b) 0 (suc g.above.e) (suc h.above.e) g.above.t (root_once f) g.above.leads
      (subst (λ (x : ℕ). Leads b (page_count b) 0 ms (suc h.above.e) x) (sym page) h.above.leads) in
      let name : n.bytes ≡ m.bytes = found_same b g.above.t n.bytes m.bytes g.at g.found
      (subst (λ (x : ℕ). entry_named (view b) x m.bytes ≡ some g.at) (sym page) (h.found ∙ ap some (sym e))) in
      map-append plain ns (n ∷ []) ∙ ap₂ {C = List Bytes} (λ (xs : List Bytes) (x : Bytes). xs ++ (x ∷ [])) l (ap unpadded name) ∙ sym (map-append plain ms (m ∷ []))

  -- where find is granted
  find_leads : (p : Bytes) → Passes (refusals (find p) (tree_of b)) → (path_of p ≡ root) ⊎ ((ns : List Name) × (n : Name) × (path_of p ≡ below ns n) × Target b ns n)
  unfolding RefusalOf.refusals RefusalOf.earlier tree_in is_no_path
  find_leads p e =
      let p1 = passed _ _ e in
      let p2 = passed _ _ p1.1 in
      let p3 = passed _ _ p2.1 in
      go (path_of p) refl p1.0 p2.0 p3.0
    where
      go : (x : Path) → path_of p ≡ x → T (not (is_no_path x)) → T (not (is_missing (walk_to x (row_at (page_count b) (view b) 0)))) → T (not (is_blocked (walk_to x (row_at (page_count b) (view b) 0))))
          → (path_of p ≡ root) ⊎ ((ns : List Name) × (n : Name) × (path_of p ≡ below ns n) × Target b ns n)
      go no_path q u v w = absurd u
      go root q u v w = inl q
      go (below ns n) q u v w = inr (ns, n, q, target f v w)

  -- no entry has an empty name, so the root has no position
  root_position : entry_position b root ≡ 0
  unfolding walk_on arrived_or
  root_position = go (entry_named (view b) 0 []) refl
    where
      go : (o : Option ℕ) → entry_named (view b) 0 [] ≡ o → get_or o 0 ≡ 0
      go none e = refl
      go (some at) e =
          let w = entry_within 0 at (named_found b 0 [] at e).0 in
          let s = valid_sized b f.fits in
          let l : length (name_at b at) ≡ 16 = part_length (at + 1) 16 b (omega (arith, w.high, s.whole, s.low)) in
          absurd (omega (arith, l, ap length (found_exact b 0 [] at e).1))

  root_apart : {ns : List Name} {n : Name} → Target b ns n → entry_position b root ≡ entry_position b (below ns n) → ⊥
  root_apart g e = omega (arith, e, root_position, g.position, (within g).far)

paths_exact : (b : Bytes) → T (sound b) → (p q : Bytes) (x y : Found) → answer (find p) b ≡ granted x → answer (find q) b ≡ granted y
    → entry_position b (path_of p) ≡ entry_position b (path_of q) → p ≡ q
unfolding MeaningOf.answer is_format
paths_exact b h p q x y u v e = elim (leads p x u) [
  | inl r ↦ elim (leads q y v) [
    | inl s ↦ root_bytes p r ∙ sym (root_bytes q s)
    | inr t ↦ absurd (root_apart f t.3 (ap (entry_position b) (sym r) ∙ e ∙ ap (entry_position b) t.2))
  ]
  | inr g ↦ elim (leads q y v) [
    | inl s ↦ absurd (root_apart f g.3 (ap (entry_position b) (sym s) ∙ sym e ∙ ap (entry_position b) g.2))
    | inr t ↦
        let at : g.3.at ≡ t.3.at = sym g.3.position ∙ ap (entry_position b) (sym g.2) ∙ e ∙ ap (entry_position b) t.2 ∙ t.3.position in
        path_bytes p g.0 g.1 g.2 ∙ ap slashed (names_once f g.3 t.3 at) ∙ sym (path_bytes q t.0 t.1 t.2)
  ]
]
  where
    f : Facts b
    f = sound_facts_lem h

    leads : (p : Bytes) (x : Found) → answer (find p) b ≡ granted x → (path_of p ≡ root) ⊎ ((ns : List Name) × (n : Name) × (path_of p ≡ below ns n) × Target b ns n)
    leads p x u = find_leads f p (sound_passed (find p) b tt (granted_passed (lines (find p) b) (told (find p) (tree_of b)) x u)).1

pub exact_names : ExactNames
exact_names = record { apart = names_apart; padding = padded_apart; in_tree = lookup_exact; in_bytes = found_exact; paths = paths_exact }
