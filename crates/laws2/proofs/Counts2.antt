-- The free counts agree in version 2: a directory has as many pages as its entries need, the root's first page being set aside with the table, and a file's
-- bytes have room on its pages. So count, zero bits and the tree's free number are one, and every other page has one owner.
use mathlib.Core.Path.{◌≡◌, refl, sym, ap, ◌∙◌, subst}
use mathlib.Core.Logic.{inl, inr}
use Prim.Native.Nat.{ℕ, ◌+◌, ◌-◌, ◌*◌, ◌/◌, ◌≤◌, ◌<◌, max}
use native.Mathlib.Nat.{mul_comm, mul-le-mul_left, mul-div_right, lt-div-mul-add}
use native.Mathlib.Omega.{arith}
use mathlib.Core.List.{List, ◌++◌, flat_map, tail}
use lib.ListN.{length, length-append}
use Rattle.volume.specs.Bytes.{Bytes}
use Rattle.volume.specs.Geometry as On
use Rattle.volume.proofs.Occ.{occ, Mem, occ_append}
use Rattle.volume.proofs.Flat.{flat_map_length}
use Rattle.volume.proofs.Marks.{bit_cases}
use Rattle.model.specs.View.{View}
use Rattle.model.specs.Sound.{owned, all_owned, owners_in}
use Rattle.model.specs.Numbers.{Numbers}
use Rattle.model.specs.Tree.{width, needs_of, tree_needs, free_number_of}
use Rattle.model.specs.Image.{row_at, tree_in}
use Rattle.model.specs.RefusalOf.{numbers_for}
use Rattle.model.specs.MeaningOf.{tree_of}
use Rattle.model.specs.DemandsOf.{Owned, is_free, is_owned}
use Rattle.view_laws.proofs.Facts.{Facts, once}
use Rattle.view_laws.proofs.Counting.{count_owned, directory_width, owned_needs}
use Rattle.view_laws.proofs.Owners.{owners_free, owners_one}
use Rattle.version_laws.proofs.Owed.{Counted}
use Rattle.model2.specs.Layout.{page_size, page_count, set_aside, geometry2, pages_for, code_in}
use Rattle.model2.specs.Version2.{entries_on, numbers2, view_by, view2}
use Rattle.model2.specs.Calls.{v2}
use Rattle.laws2.proofs.Bounds.{Allowed, bounds, all_bytes}
use Rattle.laws2.proofs.Version2.{tabled, shelved2, lies2, entries_count, page_entries_lem}
use Rattle.laws2.proofs.Facts2.{Sound2}

-- ---- room

-- a file's bytes have room on its pages
pub fill_up2 : (size s : ℕ) → 1 ≤ size → s ≤ size * pages_for size s
unfolding pages_for
fill_up2 size s h =
    let m : ℕ = (s + (size - 1)) / size in
    let u : m ≤ max 1 m = omega arith in
    omega (arith, lt-div-mul-add {a = s + (size - 1)} h, mul_comm m size, mul-le-mul_left {m = m} {n = max 1 m} size u)

-- pages behind page 0 have as many entries as a page has, each
pages_entries : (size N : ℕ) (ps : List ℕ) → ((q : ℕ) → Mem q ps → 1 ≤ q) → length (flat_map (entries_on size N) ps) ≡ size / 32 * length ps
pages_entries size N ps h = flat_map_length (entries_on size N) (size / 32) ps (λ q m. page_entries_lem size N q (h q m))

module _ {code n : ℕ} (a : Allowed code n) where
  -- a page that can have an owner
  abbrev Real : ℕ → Type 0
  Real q = (set_aside n ≤ q) × (q < page_count code n)

  per_page : 0 < page_size code / 32
  per_page = omega (arith, (bounds a).large)

  behind : {q : ℕ} → Real q → 1 ≤ q
  behind r = omega (arith, r.0, (tabled a).one)

  -- ---- the pages that a row needs

  module _ (b : Bytes) (len : length b ≡ n) (f : Facts (view_by code n b)) where
    abbrev v : View
    v = view_by code n b

    abbrev N : ℕ
    N = page_count code n

    -- the root's pages after page 0
    abbrev further : List ℕ
    further = tail (v.directory_pages 0)

    two : (q : ℕ) → occ q (all_owned N v) ≡ occ q further + occ q (owned N v 0)
    two q = occ_append q further (owned N v 0)

    below : length (owned N v 0) ≡ needs_of (numbers2 code n) (row_at N v 0)
    below = owned_needs v Real (λ s. fill_up2 (page_size code) s (omega (arith, (bounds a).large))) (λ q r. omega (arith, (lies2 a b len q r.1).0))
        (λ p u h.
        ap (λ (m : ℕ). m / (page_size code / 32)) (pages_entries (page_size code) N (v.directory_pages p) (λ q m. behind (h q m)))
        ∙ mul-div_right (length (v.directory_pages p)) per_page)
        N 0 f.formed (λ q. omega (arith, once f q, two q), λ q m. f.inside q (omega (arith, m, two q)))

    root_width : width (row_at N v 0) - (numbers2 code n).root_entries ≡ page_size code / 32 * length further
    unfolding flat_map
    root_width =
        let on : ℕ → List ℕ = entries_on (page_size code) N in
        let r = (shelved2 a).rooted b in
        let t : further ≡ r.0 = ap tail r.1 in
        let e : width (row_at N v 0) ≡ length (on 0 ++ flat_map on r.0) = directory_width v N 0 f.formed ∙ ap (λ (ps : List ℕ). length (flat_map on ps)) r.1 in
        let m = pages_entries (page_size code) N further (λ q m. behind (f.inside q (omega (arith, m, two q)))) in
        omega (arith, e, length-append (on 0) (flat_map on r.0), entries_count (page_size code) N 0, m, ap (λ (ps : List ℕ). length (flat_map on ps)) t)

    -- what is not set aside is free or needed by the tree
    pub free_sum2 : On.free_count (geometry2 code n) b + set_aside n + tree_needs (numbers2 code n) (row_at (page_count code n) (view_by code n b) 0) ≡ page_count code n
    free_sum2 =
        let pages = ap (λ (m : ℕ). m / (page_size code / 32)) root_width ∙ mul-div_right (length further) per_page in
        omega (arith, count_owned (tabled a).some f, below, pages, f.counted, length-append further (owned N v 0))

-- ---- a sound image

module _ {b : Bytes} (s : Sound2 b) where
  -- the tree's numbers are the image's
  pub numbers_same : numbers_for v2 (tree_of v2 b) ≡ numbers2 (code_in b) (length b)
  unfolding tree_in
  numbers_same = ap (numbers2 (code_in b)) (all_bytes s.allowed)

  page_owned : (p : ℕ) → set_aside (length b) ≤ p → p < page_count (code_in b) (length b) → Owned v2 b p
  unfolding owners_in
  page_owned p l u = elim (bit_cases (geometry2 (code_in b) (length b)) b p) [
    | inl z ↦ is_free z (owners_free s.facts p l u z)
    | inr o ↦ let r = owners_one s.facts p l u o in is_owned r.0 o r.1
  ]

  pub counted2 : Counted v2 b
  unfolding tree_in free_number_of
  counted2 =
      let v = view2 b in
      let same = sym numbers_same in
      let sum = subst (λ (m : Numbers). On.free_count v.geometry b + m.aside + tree_needs m (row_at v.pages v 0) ≡ v.pages) same
      (free_sum2 s.allowed b refl s.facts) in
      record {
        sum = sum;
        zeros = sym s.facts.counted;
        free = omega (arith, sum);
        owned = subst (λ (m : Numbers). (p : ℕ) → m.aside ≤ p → p < v.pages → Owned v2 b p) same page_owned;
      }
