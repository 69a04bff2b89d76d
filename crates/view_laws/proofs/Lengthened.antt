-- A directory that is a chain grows by the lowest free page, as version 2's do when they are full: the image stays sound, and the directory's row
-- gains the page's entries. By `grown_is` and `chain_longer` of volume, over any lawful geometry.
use mathlib.Core.Path.{◌≡◌, refl, sym, ap, ◌∙◌, subst}
use mathlib.Core.Logic.{◌≢◌, inl, inr}
use Prim.Native.Nat.{ℕ, suc, ◌+◌, ◌≤◌, ◌<◌}
use native.Mathlib.Omega.{arith}
use native.Mathlib.Decide.{ℕ_discrete}
use mathlib.Core.List.{List, [], ◌∷◌, ◌++◌, flat_map, tail}
use lib.ListN.{length, length-append}
use lib.Dec.{T, eqb, eqb→eq, eqb_refl}
use Rattle.volume.specs.Bytes.{Bytes, byte_at}
use Rattle.volume.specs.Chain.{chain, beyond, linked}
use Rattle.volume.specs.Geometry as On
use Rattle.volume.specs.Geometry.{Geometry, next, gained, grown}
use Rattle.volume.proofs.Occ.{occ, Mem, Nodup, Under, hit, hit_refl, mem_cons, occ_append, not_mem, mem_or_not, mem_apart, sum_occ, sum_one, under_of_mem}
use Rattle.volume.proofs.Chains.{chain_longer, chain_length, last_in, beyond_suc}
use Rattle.volume.proofs.Flat.{flat_map_append}
use Rattle.volume.proofs.Fields.{Off, load_same}
use Rattle.volume.proofs.Lawful.{Sized, Kept}
use Rattle.volume.proofs.Pages.{off_link}
use Rattle.volume.proofs.Grow.{Gained, gained_is, not_gained, Room, Grown, grown_is}
use Rattle.model.specs.Entry.{Entry}
use Rattle.model.specs.Numbers.{Numbers}
use Rattle.model.specs.View.{View, page_bit}
use Rattle.model.specs.Sound.{good_directory, owned, all_owned}
use Rattle.model.specs.Tree.{extend}
use Rattle.model.specs.Path.{Name}
use Rattle.model.specs.Image.{row_at}
use Rattle.model.specs.Walk.{change_at}
use Rattle.view_laws.proofs.Owns.{subtree}
use Rattle.view_laws.proofs.Facts.{Facts, root_once}
use Rattle.view_laws.proofs.Focus.{Leads, leads_sub, leads_below}
use Rattle.view_laws.proofs.Ways.{leads_kept}
use Rattle.view_laws.proofs.Slots.{Real, known_page}
use Rattle.view_laws.proofs.Shelf.{seen, SameBytes}
use Rattle.view_laws.proofs.Grown.{Longer, directory_grown}
use Rattle.view_laws.proofs.Chained.{linked_is, chained, Slotted, chained_shelved, mem_flat}

module _ (g : Geometry) (home : ℕ → ℕ) (N : ℕ) (numbers : Numbers) (on : ℕ → List ℕ) (read : Bytes → ℕ → Entry) (placed : Bytes → (directory entry : ℕ) → ℕ × ℕ) (slots : Slotted g home N numbers on read placed)
    (b : Bytes) (sized : Sized g N b) where
  abbrev v : View
  v = seen (chained g home N numbers on read placed) b

  module _ (f : Facts v) (names : List Name) (e t j : ℕ) (leads : Leads v N 0 names (suc e) t) (is : linked (next g b) N t ≡ suc j)
      (ends : T (v.directory_ends t)) (enough : 1 ≤ On.zero_bits g b N) where
    abbrev ps : List ℕ
    ps = chain (next g b) (suc j) t

    abbrev last : ℕ
    last = beyond (next g b) j t

    abbrev qs : List ℕ
    qs = gained g N 1 b

    abbrev b' : Bytes
    b' = grown g N 1 (g.link last) b

    abbrev v' : View
    v' = seen (chained g home N numbers on read placed) b'

    pages_are : v.directory_pages t ≡ ps
    pages_are = ap (λ (k : ℕ). chain (next g b) k t) is

    one : (q : ℕ) → occ q (subtree N v 0) ≤ 1
    one = root_once f slots.law.header ((chained_shelved g home N numbers on read placed slots).rooted b)

    sub : (q : ℕ) → occ q (v.directory_pages t) ≤ occ q (subtree N v 0)
    sub q = omega (arith, leads_sub v names N 0 (suc e) t q leads, occ_append q (v.directory_pages t) (owned (suc e) v t))

    -- a page of the root or owned is real, in the image and marked, and so is one of the directory
    known : (q : ℕ) → Mem q (subtree N v 0) → Real v q × (page_bit v q ≡ 1)
    known = known_page f slots.law.header slots.high ((chained_shelved g home N numbers on read placed slots).rooted b)

    of_directory : (q : ℕ) → Mem q ps → Real v q × (page_bit v q ≡ 1)
    of_directory q m = known q (omega (arith, m, sub q, ap (occ q) pages_are))

    once : Nodup ps
    once q = omega (arith, sub q, one q, ap (occ q) pages_are)

    last_mem : Mem last ps
    last_mem = last_in (next g b) j t

    empty : next g b last ≡ 0
    empty = sym (beyond_suc (next g b) j t) ∙ ap (λ (k : ℕ). beyond (next g b) k t) (sym is) ∙ eqb→eq (beyond (next g b) (linked (next g b) N t) t) 0 ends

    room : Room g home N 1 (g.link last) last b
    room =
        let l = of_directory last last_mem in
        record {
          size = sized;
          aside = f.aside;
          enough = enough;
          held = record {
            inside = omega (arith, slots.law.links_in last l.0.1, sized);
            bytes = λ i u w. (slots.law.of_link last i l.0.1 u w, slots.links last i l.0.1 u w);
            page = l.0.1;
            marked = l.1;
          };
          empty = empty;
        }

    w : Grown g home N qs 1 (g.link last) b b'
    w = grown_is slots.law 1 (g.link last) last b room

    n : Gained g N 1 b
    n = gained_is slots.law 1 b sized f.aside enough

    out : (q : ℕ) → page_bit v q ≡ 1 → occ q qs ≡ 0
    out q u = not_gained g N n q u

    abbrev page : ℕ
    page = On.lowest_free g N b

    qs_is : qs ≡ page ∷ []
    unfolding gained
    qs_is = refl

    page_new : (g.aside ≤ page) × (page < N) × (page_bit v page ≡ 0)
    page_new = n.new page (omega (arith, hit_refl page, ap (occ page) qs_is))

    -- bytes of a marked page stay, but for the link of the last
    kept : (q i : ℕ) → page_bit v q ≡ 1 → home i ≡ q → Kept g N i → Off (g.link last) i → byte_at b' i ≡ byte_at b i
    kept q i u h k o = w.rest i k o (ap (λ (x : ℕ). occ x qs) h ∙ out q u)

    off_last : (q i : ℕ) → home i ≡ q → q ≢ last → Off (g.link last) i
    off_last q i h ne = off_link g home N slots.law last i (of_directory last last_mem).0.1 (λ x. ne (sym h ∙ x))

    outside : (q : ℕ) → Mem q (subtree N v 0) → occ q (v.directory_pages t) ≡ 0 → SameBytes (chained g home N numbers on read placed) b b' q
    outside q m z =
        let k = known q m in
        let ne : q ≢ last = λ x. mem_apart last q ps last_mem (ap (occ q) (sym pages_are) ∙ z) (sym x) in
        record { real = k.0; bytes = λ i h c. kept q i k.1 h c (off_last q i h ne) }

    links : (q : ℕ) → Mem q ps → q ≢ last → next g b' q ≡ next g b q
    links q m ne =
        let k = of_directory q m in
        load_same (g.link q) b b' (λ i l u. let h = slots.law.of_link q i k.0.1 l u in kept q i k.1 h (slots.links q i k.0.1 l u) (off_last q i h ne))

    longer : (chain (next g b') (suc j + 1) t ≡ ps ++ qs) × (beyond (next g b') (suc j + 1) t ≡ 0)
    longer = chain_longer (next g b) (next g b') j 1 t qs once links w.pages w.ends

    both_once : Nodup (ps ++ qs)
    both_once q = elim (mem_or_not q qs) [
      | inl m ↦
          let z : occ q ps ≡ 0 = not_mem q ps (λ k. omega (arith, m, out q (of_directory q k).1)) in
          omega (arith, z, n.once q, occ_append q ps qs)
      | inr z ↦ omega (arith, z, once q, occ_append q ps qs)
    ]

    both_under : Under N (ps ++ qs)
    both_under = under_of_mem N (ps ++ qs) (λ q m. elim (mem_or_not q ps) [ inl k ↦ (of_directory q k).0.1 | inr z ↦ (n.new q (omega (arith, m, z, occ_append q ps qs))).1 ])

    -- so many pages there are at most
    short : suc j + 1 ≤ N
    short = omega (
      arith,
      sum_occ (ps ++ qs) N both_under,
      sum_one (λ p. occ p (ps ++ qs)) N (λ p l. both_once p),
      length-append ps qs,
      chain_length (next g b) (suc j) t,
      n.many,
    )

    -- but for the root's first page, which is the header, none is page 0
    positive : (ns : List Name) → Leads v N 0 ns (suc e) t → (q : ℕ) → Mem q ps → q ≢ t → 1 ≤ q
    positive [] l q m ne = elim (ℕ_discrete q 0) [ yes z ↦ absurd (ne (z ∙ l.1)) | no k ↦ omega (arith, k) ]
    positive (x ∷ ns) l q m ne =
        let d = leads_below v x ns N 0 (suc e) t q l in
        let k : Mem q (all_owned N v) = omega (
          arith,
          m,
          d,
          ap (occ q) pages_are,
          occ_append q (v.directory_pages t) (owned (suc e) v t),
          occ_append q (tail (v.directory_pages 0)) (owned N v 0),
        ) in
        omega (arith, (f.inside q k).0, slots.law.header)

    linked' : linked (next g b') N t ≡ suc j + 1
    unfolding chain
    linked' =
        let s : suc j + 1 ≡ suc (suc j) = omega arith in
        let c : t ∷ chain (next g b') (suc j) (next g b' t) ≡ ps ++ qs = ap (λ (k : ℕ). chain (next g b') k t) (sym s) ∙ longer.0 in
        linked_is (next g b') (suc j) N t (omega (arith, short))
        (λ q m. elim (mem_or_not q qs) [
          | inl k ↦ omega (arith, (n.new q k).0, slots.law.header)
          | inr z ↦
              let o : occ q (t ∷ chain (next g b') (suc j) (next g b' t)) ≡ occ q (ps ++ qs) = ap (occ q) c in
              positive names leads q (omega (arith, m, o, z, occ_append q ps qs))
              (λ x. let h : hit q t ≡ 1 = ap (hit q) (sym x) ∙ hit_refl q in omega (arith, m, o, both_once q, h))
        ])
        (ap (λ (k : ℕ). beyond (next g b') k t) (sym s) ∙ longer.1)
        ∙ sym s

    pages' : v'.directory_pages t ≡ ps ++ qs
    pages' = ap (λ (k : ℕ). chain (next g b') k t) linked' ∙ longer.0

    grew : v'.directory_pages t ≡ v.directory_pages t ++ (page ∷ [])
    grew = pages' ∙ ap (λ (l : List ℕ). l ++ qs) (sym pages_are) ∙ ap (λ (l : List ℕ). v.directory_pages t ++ l) qs_is

    longer_view : Longer v v' t page (flat_map on (page ∷ []))
    longer_view = record {
      pages = grew;
      ends = subst (λ (k : ℕ). T (eqb k 0)) (sym (ap (λ (k : ℕ). beyond (next g b') k t) linked' ∙ longer.1)) (eqb_refl 0);
      positions = ap (flat_map on) grew ∙ flat_map_append on (v.directory_pages t) (page ∷ []);
      once = ((chained_shelved g home N numbers on read placed slots).regular b').apart t (subst (λ (l : List ℕ). Nodup l) (sym pages') both_once);
      fields = λ x m.
          let o = mem_flat on (v.directory_pages t) x m in
          let k = of_directory o.0 (subst (λ (l : List ℕ). Mem o.0 l) pages_are o.1) in
          slots.known b b' x w.size (λ i u z.
          let h = slots.within o.0 x i k.0 o.2 u z in
          kept o.0 i k.1 h.0 h.1 (elim (ℕ_discrete o.0 last) [
            | yes s ↦ subst (λ (q : ℕ). Off (g.link q) i) s (slots.clear o.0 x i k.0 o.2 u z)
            | no ne ↦ off_last o.0 i h.0 ne
          ]));
      vacants = λ x m.
          let o = mem_flat on (page ∷ []) x m in
          let q : o.0 ≡ page = only o.0 o.1 in
          let mem : Mem x (on page) = subst (λ (p : ℕ). Mem x (on p)) q o.2 in
          let r = slots.inside page x page_new.0 mem in
          slots.empty b' x (w.zeroed page x (omega (arith, hit_refl page, ap (occ page) qs_is)) r.0 (omega (arith, r.1))
          (slots.clear page x x (inr page_new.0, page_new.1) mem (omega arith) (omega arith)));
    }
      where
        only : (q : ℕ) → Mem q (page ∷ []) → q ≡ page
        only q m = elim (mem_cons q page [] m) [ inl z ↦ z | inr k ↦ absurd (omega (arith, k)) ]

    pub lengthened_bytes : Grown g home N qs 1 (g.link last) b b'
    lengthened_bytes = w

    -- the names lead to it as before
    pub lengthened_leads : Leads v' N 0 names (suc e) t
    lengthened_leads =
        leads_kept ((chained_shelved g home N numbers on read placed slots).follows b b' w.size) names N 0 (suc e) t one leads
        (λ q m z. outside q m (omega (arith, z, occ_append q (v.directory_pages t) (owned (suc e) v t))))

    -- the theorem
    pub lengthened_sound : T (good_directory (suc e) v t)
        → Facts v' × (row_at N v' 0 ≡ change_at names (extend (length (flat_map on (page ∷ [])))) (row_at N v 0))
    lengthened_sound good =
        let s = chained_shelved g home N numbers on read placed slots in
        directory_grown (s.follows b b' w.size) (s.regular b)
        (record { pages = refl; geometry = refl; low = slots.law.header; high = slots.high; rooted = s.rooted b; rooted' = s.rooted b' })
        f names e t page (flat_map on (page ∷ [])) leads longer_view outside good
        (record {
          bits = λ q l. omega (arith, w.bits q l, ap (occ q) qs_is);
          count = omega (arith, w.count, f.counted, enough);
          fresh_in = λ q m. let r = n.new q (omega (arith, m, ap (occ q) qs_is)) in (r.0, r.1);
        })
