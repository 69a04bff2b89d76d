-- The one theorem behind make, write, remove and the growth of a directory, over any two views. If the directory that some names lead to changes, and
-- pages that nobody else owns, and marks and count follow the pages, then the image stays sound and the tree changes there alone.
use mathlib.Core.Path.{◌≡◌, sym, ap, ◌∙◌, subst}
use mathlib.Core.Logic.{◌≢◌, inl, inr}
use Prim.Native.Nat.{ℕ, suc, ◌+◌, ◌≤◌, ◌<◌}
use native.Mathlib.Omega.{arith}
use mathlib.Core.Bool.{Bool, true, not}
use mathlib.Core.Option.{some}
use mathlib.Core.List.{List, tail}
use lib.ListN.{length}
use lib.Dec.{T}
use Rattle.volume.specs.Lists.{first}
use Rattle.volume.specs.Geometry as On
use Rattle.volume.specs.Geometry.{Geometry}
use Rattle.volume.proofs.Occ.{occ, Mem, Nodup, hit_ne, under_of_mem, not_mem, mem_or_not, occ_append}
use Rattle.volume.proofs.Marks.{zero_balance}
use Rattle.model.specs.Entry.{Entry}
use Rattle.model.specs.View.{View, page_bit, zero_bits, free_count}
use Rattle.model.specs.Sound.{good_entry, same_name, in_directory, good_directory, owned, all_owned}
use Rattle.model.specs.Tree.{Row}
use Rattle.model.specs.Path.{Name}
use Rattle.model.specs.Walk.{change_at}
use Rattle.model.specs.Image.{entry_row, row_at}
use Rattle.view_laws.proofs.Facts.{FactsTo, Facts, Rooted, root_all, root_once}
use Rattle.view_laws.proofs.Owns.{own, subtree, own_le, own_two}
use Rattle.view_laws.proofs.Frame.{Follows, SameEntry, entry_frame}
use Rattle.view_laws.proofs.Level.{level_row, level_owned, level_good}
use Rattle.view_laws.proofs.Focus.{Regular, Leads, leads_sub, leads_owned, focus}

-- ---- soundness after a change of the owned pages: `gone` are given up, `fresh` are new

pub record Balance (v v' : View) (gone fresh : List ℕ) : Type 0 where
  pub bits : (q : ℕ) → q < v.pages → page_bit v' q + occ q gone ≡ page_bit v q + occ q fresh
  pub count : free_count v' + length fresh ≡ free_count v + length gone
  pub fresh_in : (q : ℕ) → Mem q fresh → (v.geometry.aside ≤ q) × (q < v.pages)

-- what a version owes of a change of an image: N and the geometry stay, and the root begins with the header
pub record Shaped (v v' : View) : Type 0 where
  pub pages : v'.pages ≡ v.pages
  pub geometry : v'.geometry ≡ v.geometry
  pub low : 1 ≤ v.geometry.aside
  pub high : v.geometry.aside ≤ v.pages
  pub rooted : Rooted v
  pub rooted' : Rooted v'

-- the pages lie behind those set aside, in the image
abbrev pub Ranged : View → List ℕ → Type 0
Ranged v ps = (q : ℕ) → Mem q ps → (v.geometry.aside ≤ q) × (q < v.pages)

facts_after : {v v' : View} {gone fresh : List ℕ} → Facts v → Shaped v v'
    → T (v'.directory_ends 0) → T (good_directory v.pages v' 0)
    → ((q : ℕ) → occ q (all_owned v.pages v') + occ q gone ≡ occ q (all_owned v.pages v) + occ q fresh)
    → Ranged v gone
    → Balance v v' gone fresh
    → Facts v'
facts_after {v} {v'} {gone} {fresh} f sh ends good own gone-in bal =
    subst (λ (n : ℕ). FactsTo n v') (sym sh.pages) (record {
      aside = λ q l.
          let k : q < v.geometry.aside = omega (arith, l, a) in
          let g : occ q gone ≡ 0 = not_mem q gone (λ c. omega (arith, (gone-in q c).0)) in
          let h : occ q fresh ≡ 0 = not_mem q fresh (λ c. omega (arith, (bal.fresh_in q c).0)) in
          omega (arith, f.aside q k, bal.bits q (omega (arith, sh.high)));
      counted =
          let z = zero_balance v.geometry v.bytes v'.bytes v.pages gone fresh
          (under_of_mem v.pages gone (λ q c. (gone-in q c).1)) (under_of_mem v.pages fresh (λ q c. (bal.fresh_in q c).1))
          (λ q l. ap (λ (g : Geometry). On.page_bit g v'.bytes q + occ q gone) (sym sh.geometry) ∙ bal.bits q l) in
          let g : zero_bits v' v.pages ≡ On.zero_bits v.geometry v'.bytes v.pages = ap (λ (g : Geometry). On.zero_bits g v'.bytes v.pages) sh.geometry in
          let c : free_count v' ≡ zero_bits v' v.pages = omega (arith, z, g, f.counted, bal.count) in
          c ∙ ap (zero_bits v') (sym sh.pages);
      ended = ends;
      formed = good;
      inside = λ q m. let r = in_range_lem q m in (omega (arith, r.0, a), omega (arith, r.1, sh.pages));
      exact = λ q l u.
          let k : q < v.pages = omega (arith, u, sh.pages) in
          let j : v.geometry.aside ≤ q = omega (arith, l, a) in
          omega (arith, own q, bal.bits q k, f.exact q j k);
    })
  where
    a : v'.geometry.aside ≡ v.geometry.aside
    a = ap (λ (g : Geometry). g.aside) sh.geometry

    in_range_lem : (q : ℕ) → Mem q (all_owned v.pages v') → (v.geometry.aside ≤ q) × (q < v.pages)
    in_range_lem q m = elim (mem_or_not q fresh) [
      | inl c ↦ bal.fresh_in q c
      | inr z ↦ f.inside q (omega (arith, own q))
    ]

-- ---- a directory changes

module _ {v v' : View} {Same : ℕ → Type 0} (follows : Follows v v' Same) (regular : Regular v) (sh : Shaped v v') (f : Facts v)
    (names : List Name) (e t : ℕ) (leads : Leads v v.pages 0 names (suc e) t) where
  pub directory_changed : (op : Row → Row) → op (row_at (suc e) v t) ≡ row_at (suc e) v' t → T (good_directory (suc e) v' t) → T (v'.directory_ends t)
      → ((q : ℕ) → Mem q (subtree v.pages v 0) → occ q (subtree (suc e) v t) ≡ 0 → Same q)
      → {gone fresh : List ℕ} → ((q : ℕ) → occ q (subtree (suc e) v' t) + occ q gone ≡ occ q (subtree (suc e) v t) + occ q fresh)
      → Ranged v gone → Balance v v' gone fresh
      → Facts v' × (row_at v'.pages v' 0 ≡ change_at names op (row_at v.pages v 0))
  directory_changed op row good ends frame own gone-in bal =
      let r = focus follows regular op (suc e) t row good ends names v.pages 0 f.formed f.ended
      (root_once f sh.low sh.rooted)
      (λ q k. omega (arith, sh.low, (f.inside q (omega (arith, k, occ_append q (tail (v.directory_pages 0)) (owned v.pages v 0)))).0))
      leads frame in (
        facts_after f sh r.is_ended r.is_good
            (λ q. omega (arith, r.owns q, own q, root_all v sh.rooted v.pages q, root_all v' sh.rooted' v.pages q))
            gone-in bal,
        ap (λ (n : ℕ). row_at n v' 0) sh.pages ∙ sym r.means,
      )

-- ---- one entry of it changes

-- What the change must be at the entry: `op` passes every entry before the first that the test finds, which is the one at `at`, and makes of
-- it what it is afterwards; the new entry is good, also below, and has a name of its own.
pub record Works (v v' : View) (e t at : ℕ) (op : Row → Row) (test : Entry → Bool) : Type 0 where
  pub skip : (x : Entry) → T (not (test x)) → (rest : Row) → op (entry_row v (row_at e v) x rest) ≡ entry_row v (row_at e v) x (op rest)
  pub work : (rest : Row) → op (entry_row v (row_at e v) (v.entry_at at) rest) ≡ entry_row v' (row_at e v') (v'.entry_at at) rest
  pub found : first (λ x. test (v.entry_at x)) (v.entries t) ≡ some at
  pub good : T (good_entry v' (v'.entry_at at))
  pub below : T (in_directory true (good_directory e v') (v'.entry_at at))
  pub name : (x : ℕ) → Mem x (v.entries t) → x ≢ at → T (not (same_name (v'.entry_at at) (v.entry_at x)))

-- the directory's pages and its other entries are the same
pub record SameBut (v v' : View) (t at : ℕ) : Type 0 where
  pub pages : v'.directory_pages t ≡ v.directory_pages t
  pub ends : v'.directory_ends t ≡ v.directory_ends t
  pub positions : v'.entries t ≡ v.entries t
  pub fields : (x : ℕ) → Mem x (v.entries t) → x ≢ at → v'.entry_at x ≡ v.entry_at x

module _ {v : View} (low : 1 ≤ v.geometry.aside) (rooted : Rooted v) (f : Facts v) (names : List Name) (e t at : ℕ) (touched : List ℕ)
    (leads : Leads v v.pages 0 names (suc e) t) (entry : Mem at (v.entries t))
    (mine : (q : ℕ) → Mem q touched → (1 ≤ q) × (Mem q (all_owned v.pages v) → Mem q (own e v (v.entry_at at)))) where
  sub : (q : ℕ) → occ q (subtree (suc e) v t) ≤ occ q (subtree v.pages v 0)
  sub q = leads_sub v names v.pages 0 (suc e) t q leads

  one : (q : ℕ) → occ q (subtree v.pages v 0) ≤ 1
  one = root_once f low rooted

  split : (q : ℕ) → occ q (subtree (suc e) v t) ≡ occ q (v.directory_pages t) + occ q (owned (suc e) v t)
  split q = occ_append q (v.directory_pages t) (owned (suc e) v t)

  entry_sub : (q : ℕ) → occ q (own e v (v.entry_at at)) ≤ occ q (owned (suc e) v t)
  entry_sub q = own_le e v t at q entry

  all_of : (q : ℕ) → 1 ≤ q → Mem q (subtree v.pages v 0) → Mem q (all_owned v.pages v)
  all_of q l m = omega (arith, m, root_all v rooted v.pages q, hit_ne q 0 (λ u. omega (arith, u, l)))

  owned_all : (q : ℕ) → Mem q (owned (suc e) v t) → Mem q (all_owned v.pages v)
  owned_all q h = omega (arith, h, leads_owned v names v.pages 0 (suc e) t q leads, occ_append q (tail (v.directory_pages 0)) (owned v.pages v 0))

  -- the directory's own pages are not touched
  pub directory_untouched : (q : ℕ) → Mem q (v.directory_pages t) → occ q touched ≡ 0
  directory_untouched q m = not_mem q touched (λ k.
      let w = mine q k in
      let o = w.1 (all_of q w.0 (omega (arith, m, sub q, split q))) in
      omega (arith, m, sub q, split q, one q, o, entry_sub q))

  module _ {v' : View} {Same : ℕ → Type 0} (follows : Follows v v' Same) (regular : Regular v) (sh : Shaped v v') (here : SameBut v v' t at)
      (outside : (q : ℕ) → Mem q (subtree v.pages v 0) → occ q (v.directory_pages t) ≡ 0 → occ q touched ≡ 0 → Same q) where
    others : (x : ℕ) → Mem x (v.entries t) → x ≢ at → SameEntry v v' e e x
    others x m ne = entry_frame follows e x (here.fields x m ne)
        (λ q k.
        let two = own_two e v t x at q ne m entry in
        let s = sub q in
        let sp = split q in
        let o = one q in
        let own1 : occ q (owned (suc e) v t) ≡ 1 = omega (arith, two, k, s, o, sp) in
        let nt : occ q (v.directory_pages t) ≡ 0 = omega (arith, own1, s, o, sp) in
        let oq : Mem q (subtree v.pages v 0) = omega (arith, own1, s, sp) in
        let pos : 1 ≤ q = omega (arith, low, (f.inside q (owned_all q (omega (arith, own1)))).0) in
        let z : occ q touched ≡ 0 = not_mem q touched (λ w. omega (arith, (mine q w).1 (all_of q pos oq), two, k, own1)) in
        (pos, outside q oq nt z))

    frame : (q : ℕ) → Mem q (subtree v.pages v 0) → occ q (subtree (suc e) v t) ≡ 0 → Same q
    frame q k z =
        outside q k (omega (arith, z, split q))
        (not_mem q touched (λ w.
        let r = mine q w in
        let o = r.1 (all_of q r.0 k) in
        omega (arith, o, entry_sub q, z, split q)))

    apart : Nodup (v.entries t)
    apart = regular.apart t (λ q. omega (arith, split q, sub q, one q))

    pub changed : (op : Row → Row) (test : Entry → Bool) → T (good_directory (suc e) v t) → T (v.directory_ends t) → Works v v' e t at op test
        → Balance v v' (own e v (v.entry_at at)) (own e v' (v'.entry_at at))
        → Facts v' × (row_at v'.pages v' 0 ≡ change_at names op (row_at v.pages v 0))
    changed op test good ends w bal =
        directory_changed follows regular sh f names e t leads op
        (level_row e v v' t at here.positions apart others op test w.skip w.work w.found)
        (level_good e v v' t at here.positions apart others good w.good w.below w.name)
        (subst (λ (c : Bool). T c) (sym here.ends) ends)
        frame
        (λ q. omega (arith, level_owned e v v' t at here.positions apart others entry q, split q, ap (occ q) here.pages, occ_append q (v'.directory_pages t) (owned (suc e) v' t)))
        (λ q k. f.inside q (owned_all q (omega (arith, k, entry_sub q))))
        bal
