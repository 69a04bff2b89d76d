-- Our helper's order of the pages: the header, each file's pages from its start page on, then all other pages. Files own pages of their own,
-- and each file has one start page, so every page stands in it once.
use mathlib.Core.Path.{◌≡◌, refl, sym, ap, ◌∙◌, subst}
use mathlib.Core.Logic.{◌≢◌, inl, inr}
use Prim.Native.Nat.{ℕ, zero, suc, ◌+◌, ◌-◌, ◌≤◌, ◌<◌}
use native.Mathlib.Omega.{arith}
use mathlib.Core.Bool.{Bool, true, false, not}
use mathlib.Core.List.{List, [], ◌∷◌, ◌++◌, flat_map, append_assoc}
use lib.ListN.{length, get_or}
use lib.Dec.{T, eqb, eqb→eq}
use Rattle.volume.specs.Bytes.{Bytes}
use Rattle.std.specs.Prelude.{if◌then◌else◌}
use Rattle.volume.specs.Lists.{keep, count_from, member}
use Rattle.volume.specs.Chain.{chain}
use Rattle.volume.proofs.Occ.{hit, hit_refl, hit_cases, hit_ne, occ, Mem, Nodup, Under, occ_append, mem_head, mem_tail, mem_cons, mem_or_not, not_mem, nodup_head, nodup_tail, under_of_mem}
use Rattle.volume.proofs.Tests.{occ_count_from, count_from_occ, nodup_count_from, eq-eqb, member_occ}
use Rattle.volume.proofs.Marks.{bit_low}
use Rattle.volume.proofs.Flat.{mem_flat_map, occ_flat_map_le}
use Rattle.model.specs.Layout.{version1, page_count, pages_for, link}
use Rattle.model.specs.Entry.{Entry, vacant, a_file, a_directory, entry_at}
use Rattle.model.specs.Version1.{view}
use Rattle.model.specs.Sound.{pages_of, pages_at, reached_entries, owners, sound, owners_in}
use Rattle.model.specs.Demands.{Owned, is_free, is_owned}
use Rattle.laws.proofs.Facts.{Facts, sound_facts_lem, valid_sized}
use Rattle.laws.proofs.Lists.{page_owned}
use Rattle.moves.specs.Tidy.{first_entry, owner_entry, accepted}
use Rattle.moves.specs.Propose.{is_file_entry, starts_on, file_from, is_other, order, numbered}
use Rattle.audit.proofs.Owners.{keep_mem, owner_is}
use Rattle.moves.proofs.Order.{Together, order_accepted}

-- ---- lists

-- what passes the test stands in the rest as often as before
occ_keep : (f : ℕ → Bool) (xs : List ℕ) (x : ℕ) → T (f x) → occ x (keep f xs) ≡ occ x xs
unfolding keep
occ_keep f [] x t = refl
occ_keep f (y ∷ ys) x t = go (f y) refl (occ_keep f ys x t)
  where
    go : (c : Bool) → f y ≡ c → occ x (keep f ys) ≡ occ x ys → occ x (if c then y ∷ keep f ys else keep f ys) ≡ hit x y + occ x ys
    go true e r = omega arith
    go false e r = elim (hit_cases x y) [
      | inl q ↦ absurd (subst (λ (c : Bool). T c) e (subst (λ (z : ℕ). T (f z)) q.0 t))
      | inr n ↦ omega (arith, n.1)
    ]

occ_flat_map_none : (f : ℕ → List ℕ) (xs : List ℕ) (q : ℕ) → ((x : ℕ) → Mem x xs → occ q (f x) ≡ 0) → occ q (flat_map f xs) ≡ 0
unfolding flat_map
occ_flat_map_none f [] q h = refl
occ_flat_map_none f (x ∷ xs) q h =
    omega (arith, occ_append q (f x) (flat_map f xs), h x (mem_head x xs), occ_flat_map_none f xs q (λ y m. h y (mem_tail y x xs m)))

-- only one element has q
occ_flat_map_one : (f : ℕ → List ℕ) (xs : List ℕ) (x q : ℕ) → Nodup xs → Mem x xs → ((y : ℕ) → Mem y xs → y ≢ x → occ q (f y) ≡ 0) → occ q (flat_map f xs) ≡ occ q (f x)
unfolding flat_map
occ_flat_map_one f [] x q d m h = absurd (omega arith)
occ_flat_map_one f (y ∷ ys) x q d m h = elim (mem_cons x y ys m) [
  | inl e ↦
      let z = occ_flat_map_none f ys q (λ w k. h w (mem_tail w y ys k) (λ u. omega (arith, nodup_head y ys d, ap (λ (v : ℕ). occ v ys) (u ∙ e)))) in
      omega (arith, occ_append q (f y) (flat_map f ys), z, ap (λ (w : ℕ). occ q (f w)) e)
  | inr k ↦
      let n : y ≢ x = λ u. omega (arith, nodup_head y ys d, ap (λ (v : ℕ). occ v ys) u) in
      omega (arith, occ_append q (f y) (flat_map f ys), h y (mem_head y ys) n, occ_flat_map_one f ys x q (nodup_tail y ys d) k (λ w l ne. h w (mem_tail w y ys l) ne))
]

flat_map_together : (f : ℕ → List ℕ) (xs : List ℕ) (x : ℕ) → Mem x xs → Together (flat_map f xs) (f x)
unfolding flat_map
flat_map_together f [] x m = absurd (omega arith)
flat_map_together f (y ∷ ys) x m = elim (mem_cons x y ys m) [
  | inl e ↦ record { before = []; behind = flat_map f ys; whole = ap (λ (z : ℕ). f z ++ flat_map f ys) (sym e) }
  | inr k ↦
      let r = flat_map_together f ys x k in
      record { before = f y ++ r.before; behind = r.behind; whole = ap (λ (l : List ℕ). f y ++ l) r.whole ∙ sym (append_assoc (f y) r.before (f x ++ r.behind)) }
]

mem_together : (xs : List ℕ) (x : ℕ) → Mem x xs → Together xs (x ∷ [])
mem_together [] x m = absurd (omega arith)
mem_together (y ∷ ys) x m = elim (mem_cons x y ys m) [
  | inl e ↦ record { before = []; behind = ys; whole = ap (λ (z : ℕ). z ∷ ys) (sym e) }
  | inr k ↦ let r = mem_together ys x k in record { before = y ∷ r.before; behind = r.behind; whole = ap (λ (l : List ℕ). y ∷ l) r.whole }
]

together_in : (x : ℕ) (xs ps zs : List ℕ) → Together xs ps → Together (x ∷ (xs ++ zs)) ps
together_in x xs ps zs t = record {
  before = x ∷ t.before;
  behind = t.behind ++ zs;
  whole = ap (λ (l : List ℕ). x ∷ (l ++ zs)) t.whole ∙ ap (λ (l : List ℕ). x ∷ l) (append_assoc t.before (ps ++ t.behind) zs ∙ ap (λ (l : List ℕ). t.before ++ l) (append_assoc ps t.behind zs));
}

chain_head : (next : ℕ → ℕ) (k p : ℕ) → 1 ≤ k → Mem p (chain next k p)
unfolding chain
chain_head next zero p l = absurd (omega arith)
chain_head next (suc k) p l = mem_head p (chain next k (next p))

-- ---- owners

module _ (b : Bytes) (f : Facts b) where
  abbrev pages : List ℕ
  pages = count_from 1 (page_count b - 1)

  page_range : (q : ℕ) → Mem q pages → (1 ≤ q) × (q < page_count b)
  page_range q m = let r = count_from_occ 1 (page_count b - 1) q m in (r.0, omega (arith, r.0, r.1))

  range_page : (q : ℕ) → 1 ≤ q → q < page_count b → occ q pages ≡ 1
  range_page q l u = omega (arith, nodup_count_from 1 (page_count b - 1) q, occ_count_from 1 (page_count b - 1) q l (omega arith))

  -- the owner of a page, if it has one, has it among its pages
  pub owner_has : (q x : ℕ) → owners b q ≡ x ∷ [] → Mem x (reached_entries b) × Mem q (pages_at (view b) x)
  unfolding owners_in
  owner_has q x e =
      let r = keep_mem (λ at. member q (pages_at (view b) at)) (reached_entries b) x (subst (Mem x) (sym e) (mem_head x [])) in
      (r.0, member_occ q (pages_at (view b) x) r.1)

  -- a file of the image: entry e stands at position `at`
  record File (at start : ℕ) (e : Entry) : Type 0 where
    reach : Mem at (reached_entries b)
    is : entry_at b at ≡ e
    from : Mem start (pages_of (view b) e)
    all : file_from b start ≡ pages_of (view b) e

  -- the file of an owned page
  file_of : (at : ℕ) (locked : Bool) (name date : Bytes) (start size : ℕ) → Mem at (reached_entries b) → entry_at b at ≡ a_file locked name date start size → File at start (a_file locked name date start size)
  unfolding file_from owner_entry pages_of pages_for
  file_of at locked name date start size m q =
      let h : Mem start (pages_of (view b) (a_file locked name date start size)) = chain_head (link b) (pages_for size) start (omega arith) in
      let k : Mem start (pages_at (view b) at) = subst (λ (e : Entry). Mem start (pages_of (view b) e)) (sym q) h in
      let o = (owner_is b f at start m k).2 in
      record {
        reach = m;
        is = q;
        from = h;
        all = ap (λ (l : List ℕ). starts_on b start (first_entry b l)) o ∙ ap (starts_on b start) q
            ∙ ap (λ (c : Bool). if c then pages_of (view b) (a_file locked name date start size) else []) (true_of (eqb start start) (let r : start ≡ start = refl in eq-eqb r));
      }
    where
      true_of : (c : Bool) → T c → c ≡ true
      true_of true t = refl
      true_of false t = absurd t

  -- a page of a file that starts on page p is that file's
  record From (p q : ℕ) : Type 0 where
    at : ℕ
    reach : Mem at (reached_entries b)
    owns : Mem q (pages_at (view b) at)
    file : T (is_file_entry (entry_at b at))
    unique : (locked : Bool) (name date : Bytes) (start size : ℕ) → entry_at b at ≡ a_file locked name date start size → start ≡ p

  from_file : (p q : ℕ) → 1 ≤ p → p < page_count b → Mem q (file_from b p) → From p q
  unfolding file_from owner_entry
  from_file p q l u m = go (page_owned f p l u)
    where
      starts : (at : ℕ) → Mem at (reached_entries b) → (e : Entry) → entry_at b at ≡ e → Mem q (starts_on b p e) → From p q
      starts at r vacant e k = absurd (omega arith)
      starts at r (a_file locked name date start size) e k = test (eqb start p) refl k
        where
          test : (c : Bool) → eqb start p ≡ c → Mem q (if c then pages_of (view b) (a_file locked name date start size) else []) → From p q
          test true t k = record {
            at = at;
            reach = r;
            owns = subst (λ (x : Entry). Mem q (pages_of (view b) x)) (sym e) k;
            file = subst (λ (x : Entry). T (is_file_entry x)) (sym e) tt;
            unique = λ k n d s z w.
                let same : start ≡ s = ap start_of (sym e ∙ w) in
                sym same ∙ eqb→eq start p (subst (λ (c : Bool). T c) (sym t) tt);
          }
            where
              start_of : Entry → ℕ
              start_of vacant = 0
              start_of (a_file locked name date start size) = start
              start_of (a_directory name date start size) = start
          test false t k = absurd (omega arith)
      starts at r (a_directory name date start size) e k = absurd (omega arith)

      go : Owned b p → From p q
      go (is_free z e) = absurd (omega (arith, ap (λ (l : List ℕ). occ q (starts_on b p (first_entry b l))) e, m))
      go (is_owned at o e) = starts at (owner_has p at e).0 (entry_at b at) refl (subst (λ (l : List ℕ). Mem q (starts_on b p (first_entry b l))) e m)

  -- ---- each page once

  owner_same : (x at q : ℕ) → owners b q ≡ x ∷ [] → Mem at (reached_entries b) → Mem q (pages_at (view b) at) → at ≡ x
  owner_same x at q e m k =
      let o : at ∷ [] ≡ x ∷ [] = sym (owner_is b f at q m k).2 ∙ e in
      ap (λ (l : List ℕ). get_or l 0 0) o

  other_once : (q : ℕ) → 1 ≤ q → q < page_count b → T (is_other b q) → ((p : ℕ) → Mem p pages → Mem q (file_from b p) → ⊥) → occ q (flat_map (file_from b) pages ++ keep (is_other b) pages) ≡ 1
  other_once q l u t h = omega (
    arith,
    occ_append q (flat_map (file_from b) pages) (keep (is_other b) pages),
    occ_flat_map_none (file_from b) pages q (λ p m. not_mem q (file_from b p) (h p m)),
    occ_keep (is_other b) pages q t,
    range_page q l u,
  )

  owned_once : (q x : ℕ) → 1 ≤ q → q < page_count b → owners b q ≡ x ∷ [] → (e : Entry) → entry_at b x ≡ e → occ q (flat_map (file_from b) pages ++ keep (is_other b) pages) ≡ 1
  unfolding is_other owner_entry
  owned_once q x l u o vacant e = other_once q l u (other (ap (first_entry b) o ∙ e)) (λ p m k.
      let r = page_range p m in
      let w = from_file p q r.0 r.1 k in
      subst (λ (y : Entry). T (is_file_entry y)) (ap (entry_at b) (owner_same x w.at q o w.reach w.owns) ∙ e) w.file)
    where
      other : owner_entry b q ≡ vacant → T (is_other b q)
      other w = subst (λ (y : Entry). T (not (is_file_entry y))) (sym w) tt
  owned_once q x l u o (a_directory name date start size) e = other_once q l u (other (ap (first_entry b) o ∙ e)) (λ p m k.
      let r = page_range p m in
      let w = from_file p q r.0 r.1 k in
      subst (λ (y : Entry). T (is_file_entry y)) (ap (entry_at b) (owner_same x w.at q o w.reach w.owns) ∙ e) w.file)
    where
      other : owner_entry b q ≡ a_directory name date start size → T (is_other b q)
      other w = subst (λ (y : Entry). T (not (is_file_entry y))) (sym w) tt
  owned_once q x l u o (a_file locked name date start size) e =
      let has = owner_has q x o in
      let file = file_of x locked name date start size has.0 e in
      let st : Mem start (pages_at (view b) x) = subst (λ (y : Entry). Mem start (pages_of (view b) y)) (sym e) file.from in
      let so = owner_is b f x start has.0 st in
      let one = occ_flat_map_one (file_from b) pages start q (nodup_count_from 1 (page_count b - 1)) (omega (arith, range_page start so.0 so.1)) (λ y m ne.
      not_mem q (file_from b y) (λ k.
      let r = page_range y m in
      let w = from_file y q r.0 r.1 k in
      ne (sym (w.unique locked name date start size (ap (entry_at b) (owner_same x w.at q o w.reach w.owns) ∙ e))))) in
      let same : file_from b start ≡ pages_at (view b) x = file.all ∙ ap (pages_of (view b)) (sym e) in
      let none : occ q (keep (is_other b) pages) ≡ 0 = not_mem q (keep (is_other b) pages) (λ m.
      subst (λ (y : Entry). T (not (is_file_entry y))) (ap (first_entry b) o ∙ e) (keep_mem (is_other b) pages q m).1) in
      omega (
        arith,
        occ_append q (flat_map (file_from b) pages) (keep (is_other b) pages),
        one,
        ap (occ q) same,
        none,
        has.1,
        occ_flat_map_le (pages_at (view b)) (reached_entries b) x q has.0,
        f.exact q l u,
        bit_low version1 b q,
      )

  rest_once : (q : ℕ) → 1 ≤ q → q < page_count b → occ q (flat_map (file_from b) pages ++ keep (is_other b) pages) ≡ 1
  unfolding is_other owner_entry
  rest_once q l u = go (page_owned f q l u)
    where
      free : owners b q ≡ [] → T (is_other b q)
      free e = subst (λ (l : List ℕ). T (not (is_file_entry (first_entry b l)))) (sym e) tt

      go : Owned b q → occ q (flat_map (file_from b) pages ++ keep (is_other b) pages) ≡ 1
      go (is_free z e) = other_once q l u (free e) (λ p m k.
          let r = page_range p m in
          let w = from_file p q r.0 r.1 k in
          omega (arith, ap length (sym e ∙ (owner_is b f w.at q w.reach w.owns).2)))
      go (is_owned x o e) = owned_once q x l u e (entry_at b x) refl

  -- what stands in the rest of the order is a page from 1 on
  rest_range : (q : ℕ) → Mem q (flat_map (file_from b) pages ++ keep (is_other b) pages) → (1 ≤ q) × (q < page_count b)
  rest_range q m = elim (mem_or_not q (flat_map (file_from b) pages)) [
    | inl k ↦
        let r = mem_flat_map (file_from b) pages q k in
        let i = page_range r.0 r.1 in
        let w = from_file r.0 q i.0 i.1 r.2 in
        let o = owner_is b f w.at q w.reach w.owns in
        (o.0, o.1)
    | inr z ↦ page_range q (keep_mem (is_other b) pages q (omega (arith, occ_append q (flat_map (file_from b) pages) (keep (is_other b) pages)))).0
  ]

  pub order_once : (q : ℕ) → q < page_count b → occ q (order b) ≡ 1
  unfolding order
  order_once zero u =
      let z : occ 0 (flat_map (file_from b) pages ++ keep (is_other b) pages) ≡ 0 = not_mem 0 (flat_map (file_from b) pages ++ keep (is_other b) pages) (λ m. omega (arith, (rest_range 0 m).0)) in
      omega (arith, hit_refl 0, z)
  order_once (suc q) u = omega (arith, hit_ne (suc q) 0 (omega arith), rest_once (suc q) (omega arith) u)

  pub order_under : Under (page_count b) (order b)
  unfolding order
  order_under = under_of_mem (page_count b) (order b) (λ q m. elim (mem_cons q 0 (flat_map (file_from b) pages ++ keep (is_other b) pages) m) [
    | inl e ↦ omega (arith, (valid_sized b f.fits).low)
    | inr k ↦ (rest_range q k).1
  ])

  order_together : (at : ℕ) → Mem at (reached_entries b) → Together (order b) (pages_at (view b) at)
  unfolding pages_of order
  order_together at m = go (entry_at b at) refl
    where
      go : (e : Entry) → entry_at b at ≡ e → Together (order b) (pages_of (view b) e)
      go vacant q = record { before = []; behind = order b; whole = refl }
      go (a_file locked name date start size) q =
          let file = file_of at locked name date start size m q in
          let st : Mem start (pages_at (view b) at) = subst (λ (y : Entry). Mem start (pages_of (view b) y)) (sym q) file.from in
          let so = owner_is b f at start m st in
          together_in 0 (flat_map (file_from b) pages) (pages_of (view b) (a_file locked name date start size)) (keep (is_other b) pages)
          (subst (Together (flat_map (file_from b) pages)) file.all (flat_map_together (file_from b) pages start (omega (arith, range_page start so.0 so.1))))
      go (a_directory name date start size) q =
          let st : Mem start (pages_at (view b) at) = subst (λ (y : Entry). Mem start (pages_of (view b) y)) (sym q) (mem_head start []) in
          let so = owner_is b f at start m st in
          mem_together (order b) start (omega (arith, order_once start so.1))

  order_head : get_or (order b) 0 0 ≡ 0
  unfolding order
  order_head = refl

-- Our helper's proposal is accepted on every sound image, whatever the row held before.
pub helper_accepted : (b : Bytes) (row : List ℕ) → T (sound b) → length row ≡ page_count b → T (accepted b (numbered 0 (order b) row))
helper_accepted b row h many =
    let f = sound_facts_lem h in
    order_accepted b (order b) row many (omega (arith, (valid_sized b f.fits).low)) (order_once b f) (order_under b f) (order_head b f) (order_together b f)
