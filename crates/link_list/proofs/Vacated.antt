-- No two entries of a sound directory have the same name, so a name that was emptied is not there any more.
use mathlib.Core.Path.{◌≡◌, refl, sym, ap, ◌∙◌, subst}
use Prim.Native.Nat.{ℕ, suc}
use mathlib.Core.Bool.{Bool, true, false, not, ◌&&◌}
use mathlib.Core.Option.{Option, none, some}
use mathlib.Core.List.{List, [], ◌∷◌}
use lib.Dec.{T}
use Rattle.volume.specs.Bytes.{Bytes, same}
use Rattle.std.specs.Prelude.{if◌then◌else◌}
use Rattle.volume.specs.Lists.{all, conditions}
use Rattle.volume.proofs.Tests.{and_both, both_and, conditions_cons, same_true}
use Rattle.model.specs.Layout.{page_count}
use Rattle.model.specs.Entry.{entries, Entry, vacant, a_file, a_directory, entry_at}
use Rattle.model.specs.Version1.{view}
use Rattle.model.specs.Sound.{pages_of, is_named, same_name, names_apart, good_entry, good_directory, in_directory, sound}
use Rattle.model.specs.Tree.{Row, free, file, dir, Node, lookup, vacate}
use Rattle.model.specs.Image.{content_of, entry_row, row_of, row_at, tree_of, tree_in}
use Rattle.model.specs.Path.{Name}
use Rattle.model.specs.Walk.{Walked, arrived, walk}
use Rattle.model.specs.Refusal.{is_missing, is_blocked}
use Rattle.laws.proofs.Facts.{sound_facts_lem}
use Rattle.laws.proofs.Walks.{parent}

-- none of these entries has the name
abbrev NoneNamed : Bytes → Bytes → List ℕ → Type 0
NoneNamed b n ats = T (all (λ at. not (is_named n (entry_at b at))) ats)

module _ (b : Bytes) (g : ℕ → Row) (n : Bytes) where
  named_none : (ats : List ℕ) → NoneNamed b n ats → lookup n (row_of (view b) g ats) ≡ none
  unfolding all row_of lookup is_named entry_row
  named_none [] h = refl
  named_none (x ∷ xs) h =
      let two = and_both (not (is_named n (entry_at b x))) (all (λ at. not (is_named n (entry_at b at))) xs) h in
      go (entry_at b x) two.0 (named_none xs two.1)
    where
      step : (c : Bool) (x : Node) (r : Row) → T (not c) → lookup n r ≡ none → (if c then some x else lookup n r) ≡ none
      step true x r h e = absurd h
      step false x r h e = e

      go : (e : Entry) → T (not (is_named n e)) → lookup n (row_of (view b) g xs) ≡ none → lookup n (entry_row (view b) g e (row_of (view b) g xs)) ≡ none
      go vacant h r = r
      go (a_file locked name date start size) h r = step (same name n) _ (row_of (view b) g xs) h r
      go (a_directory name date start size) h r = step (same name n) _ (row_of (view b) g xs) h r

  -- an entry that has the name is apart from all later ones
  others : (e : Entry) (ats : List ℕ) → T (is_named n e) → T (all (λ later. not (same_name e (entry_at b later))) ats) → NoneNamed b n ats
  unfolding is_named same_name
  others vacant ats h a = absurd h
  others (a_file locked name date start size) ats h a = subst (λ (m : Bytes). NoneNamed b m ats) (same_true name n h) a
  others (a_directory name date start size) ats h a = subst (λ (m : Bytes). NoneNamed b m ats) (same_true name n h) a

  gone : (ats : List ℕ) → T (names_apart (view b) ats) → lookup n (vacate n (row_of (view b) g ats)) ≡ none
  unfolding names_apart row_of lookup vacate is_named entry_row
  gone [] h = refl
  gone (x ∷ xs) h =
      let two = and_both (all (λ later. not (same_name (entry_at b x) (entry_at b later))) xs) (names_apart (view b) xs) h in
      go (entry_at b x) (λ c. named_none xs (others (entry_at b x) xs c two.0)) (gone xs two.1)
    where
      go : (e : Entry) → (T (is_named n e) → lookup n (row_of (view b) g xs) ≡ none) → lookup n (vacate n (row_of (view b) g xs)) ≡ none
          → lookup n (vacate n (entry_row (view b) g e (row_of (view b) g xs))) ≡ none
      go vacant f r = r
      go (a_file locked name date start size) f r = emptied (same name n) refl f
        where
          emptied : (c : Bool) → same name n ≡ c → (T (same name n) → lookup n (row_of (view b) g xs) ≡ none)
              → lookup n (if c then free (row_of (view b) g xs) else file locked name date (content_of (view b) size (pages_of (view b) (a_file locked name date start size))) (vacate n (row_of (view b) g xs))) ≡ none
          emptied true e f = f (subst T (sym e) tt)
          emptied false e f = rw e r
      go (a_directory name date start size) f r = emptied (same name n) refl f
        where
          emptied : (c : Bool) → same name n ≡ c → (T (same name n) → lookup n (row_of (view b) g xs) ≡ none)
              → lookup n (if c then free (row_of (view b) g xs) else dir name date (g start) (vacate n (row_of (view b) g xs))) ≡ none
          emptied true e f = f (subst T (sym e) tt)
          emptied false e f = rw e r

-- where a walk on the tree of a sound image leads
pub vacated_gone : (b : Bytes) → T (sound b) → (ns : List Name) (s : Row) (n : Bytes) → walk ns (tree_of b).root ≡ arrived s → lookup n (vacate n s) ≡ none
unfolding tree_in row_at good_directory is_missing is_blocked
vacated_gone b h ns s n e =
    let p = parent (sound_facts_lem h) (subst (λ (w : Walked Row). T (not (is_missing w))) (sym e) tt) (subst (λ (w : Walked Row). T (not (is_blocked w))) (sym e) tt) in
    let row : row_at (suc p.e) (view b) p.t ≡ s = cc (sym p.row ∙ e) in
    let good = conditions_cons (all (λ at. good_entry (view b) (entry_at b at)) (entries p.t)) _ p.good in
    let apart = conditions_cons (names_apart (view b) (entries p.t)) _ good.1 in
    subst (λ (r : Row). lookup n (vacate n r) ≡ none) row (gone b (row_at p.e (view b)) n (entries p.t) apart.0)
