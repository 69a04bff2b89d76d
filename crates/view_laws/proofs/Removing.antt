-- An entry that is removed: it becomes vacant and owned its pages alone, so the row loses it and nothing else.
use mathlib.Core.Path.{◌≡◌, refl, sym, ap, ◌∙◌, subst}
use Prim.Native.Nat.{ℕ, zero, suc, ◌≤◌}
use native.Mathlib.Omega.{arith}
use mathlib.Core.Bool.{true, not}
use mathlib.Core.Option.{some}
use mathlib.Core.List.{List, [], ◌∷◌, ◌++◌, foldl, flat_map, append-nil}
use lib.ListN.{length, set}
use lib.Dec.{T}
use Rattle.volume.specs.Bytes.{Bytes, same}
use Rattle.volume.specs.Geometry as On
use Rattle.volume.proofs.Occ.{occ, Mem}
use Rattle.volume.proofs.Tests.{if_yes, if_no}
use Rattle.volume.proofs.Lawful.{Sized}
use Rattle.volume.proofs.Entries.{Removed, removed_is}
use Rattle.model.specs.Entry.{Entry, vacant, a_file, a_directory}
use Rattle.model.specs.View.{View}
use Rattle.model.specs.Sound.{pages_of, pages_at, good_entry, is_named, same_name, in_directory, good_directory, reached, owned}
use Rattle.model.specs.Tree.{Row, free, held, vacate}
use Rattle.model.specs.Path.{Name}
use Rattle.model.specs.Image.{entry_row, row_of, row_at}
use Rattle.model.specs.Walk.{entry_named, change_at}
use Rattle.model.specs.Refusal.{row_in}
use Rattle.view_laws.proofs.Owns.{own, owned_entries}
use Rattle.view_laws.proofs.Facts.{Facts}
use Rattle.view_laws.proofs.Focus.{Leads, named_found}
use Rattle.view_laws.proofs.Change.{Works}
use Rattle.view_laws.proofs.Walks.{node_of}
use Rattle.view_laws.proofs.Slots.{Owned, entry_owned}
use Rattle.view_laws.proofs.Shelf.{Shelf, seen, Shelved, lies, entry_changed}

-- ---- a directory that holds nothing owns nothing

held_nothing : (d : ℕ) (v : View) (ats : List ℕ) → held (row_of v (row_at d v) ats) ≤ 0 → flat_map (λ x. own d v (v.entry_at x)) ats ≡ []
unfolding held row_of flat_map own entry_row
held_nothing d v [] h = refl
held_nothing d v (x ∷ xs) h = go (v.entry_at x) h (held_nothing d v xs)
  where
    go : (y : Entry) → held (entry_row v (row_at d v) y (row_of v (row_at d v) xs)) ≤ 0 → (held (row_of v (row_at d v) xs) ≤ 0 → flat_map (λ z. own d v (v.entry_at z)) xs ≡ [])
        → own d v y ++ flat_map (λ z. own d v (v.entry_at z)) xs ≡ []
    go vacant k next = next k
    go (a_file locked name date start size) k next = absurd (omega arith)
    go (a_directory name date start size) k next = absurd (omega arith)

empty_owns : (d : ℕ) (v : View) (p : ℕ) → held (row_at d v p) ≤ 0 → owned d v p ≡ []
unfolding row_at reached flat_map
empty_owns zero v p h = refl
empty_owns (suc d) v p h = owned_entries d v p ∙ held_nothing d v (v.entries p) h

entry_pages : (d : ℕ) (v : View) (x : Entry) → held (row_in (node_of v (row_at d v) x)) ≤ 0 → own d v x ≡ pages_of v x
unfolding own pages_of node_of row_in
entry_pages d v vacant h = refl
entry_pages d v (a_file locked name date start size) h = refl
entry_pages d v (a_directory name date start size) h = ap (λ (l : List ℕ). v.directory_pages start ++ l) (empty_owns d v start h) ∙ append-nil (v.directory_pages start)

-- ---- vacate

vacate_skip : (v : View) (g : ℕ → Row) (n : Bytes) (x : Entry) → T (not (is_named n x)) → (rest : Row) → vacate n (entry_row v g x rest) ≡ entry_row v g x (vacate n rest)
unfolding vacate entry_row is_named
vacate_skip v g n vacant h rest = refl
vacate_skip v g n (a_file locked name date start size) h rest = if_no (same name n) (free rest) (entry_row v g (a_file locked name date start size) (vacate n rest)) h
vacate_skip v g n (a_directory name date start size) h rest = if_no (same name n) (free rest) (entry_row v g (a_directory name date start size) (vacate n rest)) h

vacate_work : (v : View) (g : ℕ → Row) (n : Bytes) (x : Entry) → T (is_named n x) → (rest : Row) → vacate n (entry_row v g x rest) ≡ free rest
unfolding vacate entry_row is_named
vacate_work v g n vacant h rest = absurd h
vacate_work v g n (a_file locked name date start size) h rest = if_yes (same name n) (free rest) (entry_row v g (a_file locked name date start size) (vacate n rest)) h
vacate_work v g n (a_directory name date start size) h rest = if_yes (same name n) (free rest) (entry_row v g (a_directory name date start size) (vacate n rest)) h

-- ---- the entry afterwards

vacant_works : (v v' : View) (e t at : ℕ) (n : Bytes) → entry_named v t n ≡ some at → v'.entry_at at ≡ vacant → Works v v' e t at (vacate n) (is_named n)
unfolding entry_named good_entry same_name entry_row
vacant_works v v' e t at n found gone = record {
  skip = vacate_skip v (row_at e v) n;
  work = λ rest. vacate_work v (row_at e v) n (v.entry_at at) (named_found v t n at found).1 rest ∙ ap (λ (x : Entry). entry_row v' (row_at e v') x rest) (sym gone);
  found = found;
  good = subst (λ (x : Entry). T (good_entry v' x)) (sym gone) tt;
  below = subst (λ (x : Entry). T (in_directory true (good_directory e v') x)) (sym gone) tt;
  name = λ x m ne. subst (λ (y : Entry). T (not (same_name y (v.entry_at x)))) (sym gone) tt;
}

-- ---- on any shelf

module _ {s : Shelf} (w : Shelved s) {b : Bytes} (sized : Sized s.geometry s.pages b) (f : Facts (seen s b)) (names : List Name) (e t at : ℕ) (n : Bytes)
    (leads : Leads (seen s b) s.pages 0 names (suc e) t) (good : T (good_directory (suc e) (seen s b) t)) (ends : T (s.directory_ends b t))
    (found : entry_named (seen s b) t n ≡ some at) (empty : held (row_in (node_of (seen s b) (row_at e (seen s b)) (s.entry_at b at))) ≤ 0) where
  abbrev ps : List ℕ
  ps = pages_at (seen s b) at

  abbrev b' : Bytes
  b' = set (foldl (On.released s.geometry) b ps) at 0

  entry : Mem at (s.entries b t)
  entry = (named_found (seen s b) t n at found).0

  mine : own e (seen s b) (s.entry_at b at) ≡ ps
  mine = entry_pages e (seen s b) (s.entry_at b at) empty

  pub removed_bytes : Removed s.geometry s.pages b b' at ps
  removed_bytes =
      let o = lies w f names e t leads at entry in
      let p : Owned (seen s b) ps = subst (Owned (seen s b)) mine (entry_owned f names e t at leads entry) in
      removed_is w.law b at ps sized (omega (arith, o.inside sized)) (o.bytes at (omega arith) (omega arith)).1
      (λ q k. ((p.inside q k).1, (p.inside q k).2)) p.once

  pub removed_sound : Facts (seen s b') × (row_at s.pages (seen s b') 0 ≡ change_at names (vacate n) (row_at s.pages (seen s b) 0))
  unfolding own
  removed_sound =
      let r = removed_bytes in
      let gone : s.entry_at b' at ≡ vacant = w.empty b' at r.flag in
      let none_left : own e (seen s b') (s.entry_at b' at) ≡ [] = ap (own e (seen s b')) gone in
      entry_changed w f names e t leads b' at [] entry (λ q k. absurd (omega arith)) r.size (λ i k z u. r.rest i k (λ x. omega (arith, x, z (omega (arith, x)))))
      (vacate n) (is_named n) good ends (vacant_works (seen s b) (seen s b') e t at n found gone)
      (record {
        bits = λ q l. omega (arith, ap (occ q) mine, ap (occ q) none_left, r.bits q l);
        count = omega (arith, ap length mine, ap length none_left, r.count);
        fresh_in = λ q k. absurd (omega (arith, ap (occ q) none_left));
      })
