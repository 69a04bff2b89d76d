-- The pages of a directory that some names lead to are marked, and the pages of an entry of it are marked, owned once and none of the directory's.
use mathlib.Core.Path.{◌≡◌, ap, ◌∙◌}
use mathlib.Core.Logic.{◌⊎◌, inl, inr}
use Prim.Native.Nat.{ℕ, suc, ◌≤◌, ◌<◌}
use native.Mathlib.Omega.{arith}
use native.Mathlib.Decide.{ℕ_discrete}
use mathlib.Core.List.{List, tail}
use Rattle.volume.proofs.Occ.{occ, Mem, Nodup, hit_ne, occ_append}
use Rattle.model.specs.View.{View, page_bit}
use Rattle.model.specs.Sound.{owned, all_owned}
use Rattle.model.specs.Path.{Name}
use Rattle.view_laws.proofs.Owns.{own, subtree, own_le}
use Rattle.view_laws.proofs.Facts.{Facts, once, Rooted, root_all, root_once}
use Rattle.view_laws.proofs.Focus.{Leads, leads_sub, leads_owned}

-- a page that a directory or a file may have
abbrev pub Real : View → ℕ → Type 0
Real v q = ((q ≡ 0) ⊎ (v.geometry.aside ≤ q)) × (q < v.pages)

-- the pages of an entry, with those below it
pub record Owned (v : View) (ps : List ℕ) : Type 0 where
  pub inside : (q : ℕ) → Mem q ps → (v.geometry.aside ≤ q) × (q < v.pages) × (page_bit v q ≡ 1)
  pub once : Nodup ps

module _ {v : View} (f : Facts v) where
  all_marked : (q : ℕ) → Mem q (all_owned v.pages v) → (v.geometry.aside ≤ q) × (q < v.pages) × (page_bit v q ≡ 1)
  all_marked q m = let r = f.inside q m in (r.0, r.1, omega (arith, f.exact q r.0 r.1, once f q))

  module _ (low : 1 ≤ v.geometry.aside) (high : v.geometry.aside ≤ v.pages) (rooted : Rooted v) where
    -- a page of the root or owned is real and marked
    pub known_page : (q : ℕ) → Mem q (subtree v.pages v 0) → Real v q × (page_bit v q ≡ 1)
    known_page q m = elim (ℕ_discrete q 0) [
      | yes e ↦ ((inl e, omega (arith, e, low, high)), ap (page_bit v) e ∙ f.aside 0 low)
      | no ne ↦ let r = all_marked q (omega (arith, m, root_all v rooted v.pages q, hit_ne q 0 ne)) in ((inr r.0, r.1), r.2)
    ]

    pub directory_page : (ns : List Name) (e t q : ℕ) → Leads v v.pages 0 ns e t → Mem q (v.directory_pages t) → Real v q × (page_bit v q ≡ 1)
    directory_page ns e t q l m = known_page q (omega (arith, m, leads_sub v ns v.pages 0 e t q l, occ_append q (v.directory_pages t) (owned e v t)))

    -- the directory's own pages are none of an entry's
    pub entry_apart : (ns : List Name) (e t at q : ℕ) → Leads v v.pages 0 ns (suc e) t → Mem at (v.entries t) → Mem q (v.directory_pages t)
        → occ q (own e v (v.entry_at at)) ≡ 0
    entry_apart ns e t at q l m k = omega (
      arith,
      leads_sub v ns v.pages 0 (suc e) t q l,
      root_once f low rooted q,
      own_le e v t at q m,
      occ_append q (v.directory_pages t) (owned (suc e) v t),
      k,
    )

  pub entry_owned : (ns : List Name) (e t at : ℕ) → Leads v v.pages 0 ns (suc e) t → Mem at (v.entries t) → Owned v (own e v (v.entry_at at))
  entry_owned ns e t at l m = record {
    inside = λ q k. all_marked q (omega (arith, k, among q));
    once = λ q. omega (arith, among q, once f q);
  }
    where
      among : (q : ℕ) → occ q (own e v (v.entry_at at)) ≤ occ q (all_owned v.pages v)
      among q = omega (
        arith,
        own_le e v t at q m,
        leads_owned v ns v.pages 0 (suc e) t q l,
        occ_append q (tail (v.directory_pages 0)) (owned v.pages v 0),
      )
