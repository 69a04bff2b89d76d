-- The promise of paper 02 §11, put together: a granted store has passed its lines, so every store of the file is granted, and what the laws of the stores
-- ask is there; a refused one is refused by make's lines, by the want of pages that write has too, or by its number.
use mathlib.Core.Path.{◌≡◌, refl, sym, ap, ◌∙◌, subst}
use mathlib.Core.Logic.{◌⊎◌, inl, inr}
use Prim.Native.Nat.{ℕ, ◌≤◌, ◌<◌}
use native.Mathlib.Omega.{arith}
use mathlib.Core.Bool.{Bool, true, false, not}
use mathlib.Core.List.{List, [], ◌∷◌, ◌++◌, map}
use lib.ListN.{length}
use lib.Dec.{T, eqb, leb, ltb}
use borrow.Author.Tests.{le-ltb, lt-leb, eq-eqb}
use Rattle.volume.specs.Bytes.{Bytes}
use Rattle.std.specs.Prelude.{if◌then◌else◌}
use Rattle.volume.specs.Geometry as On
use Rattle.model.specs.Layout.{version1, page_count, pages_for}
use Rattle.model.specs.Path.{Path, below, path_of}
use Rattle.model.specs.Tree.{free_number}
use Rattle.model.specs.Image.{tree_of}
use Rattle.model.specs.Walk.{parent_page}
use Rattle.model.specs.Store.{stored, Store, store_of, last_pages, store_pages, stores, store_at, store_count}
use Rattle.model.specs.Call.{make_file, write, store, Refusal, refusal, Answer, refused, granted}
use Rattle.model.specs.Refusal.{Line, make_lines, settle, Passes}
use Rattle.model.specs.Meaning.{image_lines, is_format, lines, answer, told_on}
use Rattle.model.specs.MeaningOf
use Rattle.model.specs.RefusalOf
use Rattle.laws.proofs.Facts.{Facts, sound_facts_lem}
use Rattle.laws.proofs.Lines.{settle_append, settle_open, granted_passed, not_granted}
use Rattle.laws.proofs.Steps.{settled}
use Rattle.laws.proofs.Make.{Clear}
use Rattle.store_laws.specs.Demand.{Granted, Refuses, as_make, as_write, StoreDemand}
use Rattle.store_laws.proofs.Stored.{stored_on}
use Rattle.store_laws.proofs.Calls.{Opens, store_opens, store_many, store_survives, store_completes}
use Rattle.store_laws.proofs.Refusals.{store_like_make, store_like_write, store_past}

map_pages : (d : Bytes) (ps : List ℕ) → map (λ (s : Store). s.page) (map (store_of d) ps) ≡ ps
map_pages d [] = refl
map_pages d (p ∷ ps) = ap (λ (r : List ℕ). p ∷ r) (map_pages d ps)

module _ (path date v buffer b : Bytes) (k : ℕ) (o : Opens path date v k buffer b) where
  f : Facts b
  f = sound_facts_lem o.is_sound

  abbrev c : Clear b o.makes.ns o.makes.n date (pages_for (length v))
  c = o.makes.clear

  in_order : map (λ (s : Store). s.page) (stores (path_of path) date v b) ≡ On.gained version1 (page_count b) (pages_for (length v)) b ++ last_pages (parent_page b (path_of path))
  unfolding stores store_pages
  in_order =
      subst (λ (p : Path). map (λ (s : Store). s.page) (stores p date v b) ≡ On.gained version1 (page_count b) (pages_for (length v)) b ++ last_pages (parent_page b p)) (sym o.makes.is)
      (map_pages (stored (below o.makes.ns o.makes.n) date v b) _
      ∙ ap (λ (qs : List ℕ). qs ++ last_pages (parent_page b (below o.makes.ns o.makes.n))) (stored_on b f o.makes.ns o.makes.n date v c).gains)

  as_many : length (stores (path_of path) date v b) ≡ store_count (path_of path) v
  as_many = subst (λ (p : Path). length (stores p date v b) ≡ store_count p v) (sym o.makes.is) (store_many b f o.makes.ns o.makes.n date v c)

  -- every store of the file passes
  each_open : {A : Type 0} (g : Refusal → A) (x : A) (j : ℕ) → j < store_count (path_of path) v → settle (lines (store path date v j buffer) b) g x ≡ x
  unfolding RefusalOf.refusals RefusalOf.earlier RefusalOf.later RefusalOf.wanted settle
  each_open g x j l =
      let past : leb (store_count (path_of path) v) j ≡ false = lt-leb (store_count (path_of path) v) j l in
      let room : ltb (free_number (tree_of b)) (pages_for (length v)) ≡ false = le-ltb (free_number (tree_of b)) (pages_for (length v)) o.space in
      settled b o.is_sound g x (store path date v j buffer)
      ∙ (rw (eq-eqb (length buffer) 256 o.lent) (
      settle_append g (make_lines path date (tree_of b)) ((ltb (free_number (tree_of b)) (pages_for (length v)), refusal 10) ∷ (leb (store_count (path_of path) v) j, refusal 12) ∷ []) x
      ∙ settle_open (make_lines path date (tree_of b)) g _ o.making
      ∙ rw (room, past)))

  granted_all : Granted path date v buffer b
  unfolding MeaningOf.answer MeaningOf.buffer_after
  granted_all = record {
    ordered = in_order;
    many = as_many;
    answered = λ j l. each_open refused (granted (store_at j (path_of path) date v b).page) j l;
    lent = λ j l. each_open (λ m. buffer) (store_at j (path_of path) date v b).bytes j l;
    survives = store_survives path date v k buffer b o;
    completes = store_completes path date v k buffer b o;
  }

-- a refused store is refused as make is, or as write is, or by its number
module _ (path date v : Bytes) (k : ℕ) (buffer b : Bytes) (g : Refusal) (lent : length buffer ≡ 256) (e : answer (store path date v k buffer) b ≡ refused g) where
  by_cases : Refuses path date v b g ⊎ ((g ≡ refusal 12) × (store_count (path_of path) v ≤ k))
  by_cases = go (answer (make_file path date) b) refl
    where
      go : (a : Answer (Unit {0})) → answer (make_file path date) b ≡ a → Refuses path date v b g ⊎ ((g ≡ refusal 12) × (store_count (path_of path) v ≤ k))
      go (refused m) u =
          let same : m ≡ g = let q : ◌≡◌ {A = Answer ℕ} (refused m) (refused g) = sym (store_like_make path date v k buffer b m lent u) ∙ e in cc in
          inl (as_make (u ∙ ap {B = Answer (Unit {0})} (λ z. refused z) same))
      go (granted x) u = elim (store_past path date v k buffer b g lent u e) [ inl w ↦ inl (as_write u w) | inr w ↦ inr w ]

pub store_demand : StoreDemand
unfolding MeaningOf.answer
store_demand = record {
  grants = λ path date v k buffer b p e.
      granted_all path date v buffer b k (store_opens path date v k buffer b (granted_passed (lines (store path date v k buffer) b) (told_on (store path date v k buffer) b) p e));
  refuses = λ path date v k buffer b g lent r. refuse path date v k buffer b g lent r;
  refused = by_cases;
}
  where
    refuse : (path date v : Bytes) (k : ℕ) (buffer b : Bytes) (g : Refusal) → length buffer ≡ 256 → Refuses path date v b g → answer (store path date v k buffer) b ≡ refused g
    refuse path date v k buffer b g lent (as_make e) = store_like_make path date v k buffer b g lent e
    refuse path date v k buffer b g lent (as_write e w) = store_like_write path date v k buffer b g lent e w
