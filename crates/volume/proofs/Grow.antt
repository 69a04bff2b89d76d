-- A chain grown by k pages: which pages it gains, what becomes of them, and that nothing else changes.
-- One step takes the lowest free page and puts its number at the joint; that page's link, which is 0, is the next joint.
use mathlib.Core.Path.{◌≡◌, refl, sym, ap, ◌∙◌, subst}
use mathlib.Core.Logic.{◌≢◌, inl, inr}
use Prim.Native.Nat.{ℕ, zero, suc, ◌+◌, ◌-◌, ◌≤◌, ◌<◌}
use native.Mathlib.Omega.{arith}
use native.Mathlib.Decide.{ℕ_discrete, dec_lt}
use mathlib.Core.List.{List, [], ◌∷◌}
use lib.ListN.{length}
use Rattle.volume.specs.Bytes.{Bytes, byte_at}
use Rattle.volume.specs.Chain.{chain, beyond}
use Rattle.volume.specs.Field.{Field, load, store}
use Rattle.volume.specs.Geometry.{Geometry, start, next, free_count, bitmap_byte, page_bit, zero_bits, lowest_free, mark, taken, grown, gained}
use Rattle.volume.proofs.Occ.{hit, hit_refl, hit_ne, hit_cases, occ, Nodup, Under, mem_cons, not_mem, under_cons, under_of_mem, nodup_cons}
use Rattle.volume.proofs.Puts.{not_inside}
use Rattle.volume.proofs.Fields.{place, wide, Off, store_length, store_out, load_store, load_same}
use Rattle.volume.proofs.Lawful.{Sized, Kept, Lawful}
use Rattle.volume.proofs.Marks.{mark_bits, mark_here, mark_other, mark_cong, mark_count, mark_length, zero_balance, lowest_cong, lowest_le, lowest_free_lem}
use Rattle.volume.proofs.Pages.{Taken, taken_is, bits_same, map_in, off_link, page_kept, link_kept}

module _ (g : Geometry) (N : ℕ) where
  -- the pages gained are free pages of the image, and no two are the same
  pub record Gained (k : ℕ) (b : Bytes) : Type 0 where
    pub new : (p : ℕ) → 1 ≤ occ p (gained g N k b) → (g.aside ≤ p) × (p < N) × (page_bit g b p ≡ 0)
    pub once : Nodup (gained g N k b)
    pub many : length (gained g N k b) ≡ k

  -- they are pages of the image, and none of those in use
  pub gained_under : {k : ℕ} {b : Bytes} → Gained k b → Under N (gained g N k b)
  gained_under {k} {b} n = under_of_mem N (gained g N k b) (λ p m. (n.new p m).1)

  pub not_gained : {k : ℕ} {b : Bytes} → Gained k b → (q : ℕ) → page_bit g b q ≡ 1 → occ q (gained g N k b) ≡ 0
  not_gained {k} {b} n q u = not_mem q (gained g N k b) (λ m. omega (arith, (n.new q m).2, u))

module _ (g : Geometry) (home : ℕ → ℕ) (N : ℕ) where
  -- n bytes from position `at` that belong to the marked page `own`, apart from count and bitmap
  pub record Held (at n own : ℕ) (b : Bytes) : Type 0 where
    pub inside : at + n ≤ length b
    pub bytes : (i : ℕ) → at ≤ i → i < at + n → (home i ≡ own) × Kept g N i
    pub page : own < N
    pub marked : page_bit g b own ≡ 1

  -- what there must be to grow: enough free pages, and a joint that holds 0
  pub record Room (k : ℕ) (joint : Field) (own : ℕ) (b : Bytes) : Type 0 where
    pub size : Sized g N b
    pub aside : (q : ℕ) → q < g.aside → page_bit g b q ≡ 1
    pub enough : k ≤ zero_bits g b N
    pub held : Held (place joint) (wide joint) own b
    pub empty : load joint b ≡ 0

  -- b' is b with the pages ps taken and linked from the joint on
  pub record Grown (ps : List ℕ) (k : ℕ) (joint : Field) (b b' : Bytes) : Type 0 where
    pub size : length b' ≡ length b
    pub bits : (q : ℕ) → q < N → page_bit g b' q ≡ page_bit g b q + occ q ps
    pub count : free_count g b' ≡ free_count g b - k
    pub rest : (i : ℕ) → Kept g N i → Off joint i → occ (home i) ps ≡ 0 → byte_at b' i ≡ byte_at b i
    pub zeroed : (p i : ℕ) → 1 ≤ occ p ps → start g p ≤ i → i < start g p + g.size → Off (g.link p) i → byte_at b' i ≡ 0
    pub pages : chain (next g b') k (load joint b') ≡ ps
    pub ends : beyond (next g b') k (load joint b') ≡ 0

  -- one page p taken, and its number put at the joint
  pub record Step (p : ℕ) (joint : Field) (b b₁ : Bytes) : Type 0 where
    pub size : length b₁ ≡ length b
    pub bit_here : page_bit g b₁ p ≡ 1
    pub bits : (q : ℕ) → q < N → q ≢ p → page_bit g b₁ q ≡ page_bit g b q
    pub count : free_count g b₁ ≡ free_count g b - 1
    pub rest : (i : ℕ) → Kept g N i → Off joint i → home i ≢ p → byte_at b₁ i ≡ byte_at b i
    pub page : (i : ℕ) → start g p ≤ i → i < start g p + g.size → byte_at b₁ i ≡ 0
    pub ends : next g b₁ p ≡ 0
    pub at : load joint b₁ ≡ p

  -- a free page taken: one more at p
  pub step_bits : (p : ℕ) (joint : Field) (b b₁ : Bytes) → Step p joint b b₁ → page_bit g b p ≡ 0 → (q : ℕ) → q < N → page_bit g b₁ q ≡ page_bit g b q + occ q (p ∷ [])
  step_bits p joint b b₁ st z q l = elim (hit_cases q p) [
    | inl e ↦ omega (arith, e.1, ap (page_bit g b₁) e.0, ap (page_bit g b) e.0, st.bit_here)
    | inr e ↦ omega (arith, e.1, st.bits q l e.0)
  ]

module _ {g : Geometry} {home : ℕ → ℕ} {N : ℕ} (law : Lawful g home N) where
  -- the pages gained hang on the bits alone
  pub gained_cong : (k : ℕ) (b b' : Bytes) → Sized g N b → length b' ≡ length b → ((q : ℕ) → q < N → page_bit g b' q ≡ page_bit g b q) → gained g N k b' ≡ gained g N k b
  unfolding gained
  gained_cong zero b b' s e h = refl
  gained_cong (suc k) b b' s e h =
      let p = lowest_free g N b in
      let l : lowest_free g N b' ≡ p = lowest_cong g N b b' h in
      let fit : bitmap_byte g p < length b = map_in g home N law p b s (lowest_le g N b) in
      let fit' : bitmap_byte g p < length b' = omega arith in
      let e₁ : length (mark g p b') ≡ length (mark g p b) = mark_length g p b' ∙ e ∙ sym (mark_length g p b) in
      ap (λ (x : ℕ). x ∷ gained g N k (mark g x b')) l
      ∙ ap {B = List ℕ} (λ r. p ∷ r) (gained_cong k (mark g p b) (mark g p b') (mark_length g p b ∙ s) e₁ (λ q u. mark_cong g b b' p fit fit' q (h q u)))

  -- a free page is none of those set aside
  past : (b : Bytes) → ((q : ℕ) → q < g.aside → page_bit g b q ≡ 1) → (p : ℕ) → page_bit g b p ≡ 0 → g.aside ≤ p
  past b r p z = elim (dec_lt p g.aside) [ yes h ↦ absurd (omega (arith, r p h)) | no h ↦ omega arith ]

  pub gained_is : (k : ℕ) (b : Bytes) → Sized g N b → ((q : ℕ) → q < g.aside → page_bit g b q ≡ 1) → k ≤ zero_bits g b N → Gained g N k b
  unfolding gained
  gained_is zero b s r h = record { new = λ p m. absurd (omega arith); once = λ p. omega arith; many = refl }
  gained_is (suc k) b s r h =
      let p = lowest_free g N b in
      let l = lowest_free_lem g N b (omega arith) in
      let p0 : page_bit g b p ≡ 0 = l.1 in
      let low : g.aside ≤ p = past b r p p0 in
      let fit : bitmap_byte g p < length b = map_in g home N law p b s (lowest_le g N b) in
      let i = gained_is k (mark g p b) (mark_length g p b ∙ s) (λ q u. mark_other g b p q fit (omega arith) ∙ r q u) (omega (arith, mark_count g b p N fit l.0 p0)) in
      record {
        new = λ q m. elim (ℕ_discrete q p) [
          | yes e ↦ (omega arith, omega (arith, e, l.0), ap (page_bit g b) e ∙ p0)
          | no e ↦
              let t = i.new q (omega (arith, hit_ne q p e, m)) in
              (t.0, t.1, sym (mark_other g b p q fit e) ∙ t.2)
        ];
        once = nodup_cons p (gained g N k (mark g p b)) (not_gained g N i p (mark_here g b p fit)) i.once;
        many = ap suc i.many;
      }

  step_is : (p : ℕ) (joint : Field) (own : ℕ) (b : Bytes) → Sized g N b → g.aside ≤ p → p < N → Held g home N (place joint) (wide joint) own b → own ≢ p
      → Step g home N p joint b (store joint p (taken g p b))
  step_is p joint own b s ha hp f ne = record {
    size = store_length joint p b₁ ∙ t.size;
    bit_here = bits_same g N b₁ (store joint p b₁) map p hp ∙ t.bit_here;
    bits = λ q l u. bits_same g N b₁ (store joint p b₁) map q l ∙ t.bits q l u;
    count = load_same g.count b₁ (store joint p b₁) (λ i k l. store_out joint p b₁ i (off_kept i (λ u. omega (arith, u.count k, l)))) ∙ t.count;
    rest = λ i k o u. store_out joint p b₁ i o ∙ t.rest i k u;
    page = λ i k l. store_out joint p b₁ i (off i (law.of_page p i ha k l)) ∙ t.page i k l;
    ends = load_same (g.link p) b₁ (store joint p b₁) (λ i k l. store_out joint p b₁ i (off i (law.of_link p i hp k l))) ∙ t.ends;
    at = load_store joint p b₁ (omega (arith, t.size, f.inside));
  }
    where
      b₁ : Bytes
      b₁ = taken g p b

      t : Taken g home N p b (taken g p b)
      t = taken_is g home N law p b s ha hp

      -- the joint is apart from page p and its link, and from count and bitmap
      off : (i : ℕ) → home i ≡ p → Off joint i
      off i e = not_inside (place joint) (wide joint) i (λ l k. ne (sym (f.bytes i l k).0 ∙ e))

      off_kept : (i : ℕ) → (Kept g N i → ⊥) → Off joint i
      off_kept i bad = not_inside (place joint) (wide joint) i (λ l k. bad (f.bytes i l k).1)

      map : (q : ℕ) → q < N → byte_at (store joint p (taken g p b)) (bitmap_byte g q) ≡ byte_at (taken g p b) (bitmap_byte g q)
      map q h = store_out joint p (taken g p b) (bitmap_byte g q) (off_kept (bitmap_byte g q) (λ k. k.map q h refl))

  -- the first page and then the others
  joined : (p k : ℕ) (joint : Field) (own : ℕ) (b b₁ b' : Bytes) (qs : List ℕ) → Step g home N p joint b b₁ → Grown g home N qs k (g.link p) b₁ b'
      → g.aside ≤ p → p < N → page_bit g b p ≡ 0 → Held g home N (place joint) (wide joint) own b → own ≢ p → ((q : ℕ) → page_bit g b₁ q ≡ 1 → occ q qs ≡ 0)
      → Grown g home N (p ∷ qs) (suc k) joint b b'
  unfolding chain beyond
  joined p k joint own b b₁ b' qs st r ha hp p0 f ne out =
      record {
        size = r.size ∙ st.size;
        bits = λ q l. omega (arith, r.bits q l, step_bits g home N p joint b b₁ st p0 q l);
        count = omega (arith, r.count, st.count);
        rest = λ i h o m.
            let nep : home i ≢ p = λ e. omega (arith, m, hit_refl p, ap (λ (x : ℕ). hit x p) e) in
            r.rest i h (off_link g home N law p i hp nep) (omega (arith, m)) ∙ st.rest i h o nep;
        zeroed = λ q i m l h o. elim (mem_cons q p qs m) [
          | inl e ↦
              let lp : start g p ≤ i = subst (λ (x : ℕ). start g x ≤ i) e l in
              let up : i < start g p + g.size = subst (λ (x : ℕ). i < start g x + g.size) e h in
              r.rest i (page_kept g home N law p i ha lp up) (subst (λ (x : ℕ). Off (g.link x) i) e o)
              (ap (λ (x : ℕ). occ x qs) (law.of_page p i ha lp up) ∙ out p st.bit_here) ∙ st.page i lp up
          | inr k ↦ r.zeroed q i k l h o
        ];
        pages = ap (chain (next g b') (suc k)) at ∙ ap {B = List ℕ} (λ r. p ∷ r) r.pages;
        ends = ap (beyond (next g b') (suc k)) at ∙ r.ends;
      }
    where
      own_out : occ own qs ≡ 0
      own_out = out own (st.bits own f.page ne ∙ f.marked)

      at : load joint b' ≡ p
      at =
          load_same joint b₁ b' (λ i l m.
          let h = f.bytes i l m in
          r.rest i h.1 (off_link g home N law p i hp (λ e. ne (sym h.0 ∙ e))) (ap (λ (x : ℕ). occ x qs) h.0 ∙ own_out))
          ∙ st.at

  -- the image after one step, with the new page's link as the joint
  pub room_next : (k : ℕ) (joint : Field) (own : ℕ) (b : Bytes) → Room g home N (suc k) joint own b
      → let p = lowest_free g N b in let b₁ = store joint p (taken g p b) in
      (g.aside ≤ p) × (p < N) × (own ≢ p) × Step g home N p joint b b₁ × Room g home N k (g.link p) p b₁
  room_next k joint own b r =
      let p = lowest_free g N b in
      let l = lowest_free_lem g N b (omega (arith, r.enough)) in
      let hp : p < N = l.0 in
      let p0 : page_bit g b p ≡ 0 = l.1 in
      let ha : g.aside ≤ p = past b r.aside p p0 in
      let ne : own ≢ p = λ e. omega (arith, ap (page_bit g b) e, p0, r.held.marked) in
      let b₁ : Bytes = store joint p (taken g p b) in
      let st : Step g home N p joint b b₁ = step_is p joint own b r.size ha hp r.held ne in
      let s₁ : Sized g N b₁ = st.size ∙ r.size in
      let zeros = zero_balance g b b₁ N [] (p ∷ []) (λ q u. refl) (under_cons N p [] hp (λ q u. refl)) (λ q u. omega (arith, step_bits g home N p joint b b₁ st p0 q u)) in (
        ha,
        hp,
        ne,
        st,
        record {
          size = s₁;
          aside = λ q h. st.bits q (omega arith) (omega arith) ∙ r.aside q h;
          enough = omega (arith, zeros, r.enough);
          empty = st.ends;
          held = record {
            inside = omega (arith, law.links_in p hp, s₁);
            bytes = λ i u v. (law.of_link p i hp u v, link_kept g home N law p i ha hp u v);
            page = hp;
            marked = st.bit_here;
          };
        },
      )

  -- the pages gained after a step are those gained after the mark alone
  pub gained_next : (k p : ℕ) (joint : Field) (b b₁ : Bytes) → Sized g N b → p < N → page_bit g b p ≡ 0 → Step g home N p joint b b₁ → gained g N k b₁ ≡ gained g N k (mark g p b)
  gained_next k p joint b b₁ s hp p0 st =
      let fit : bitmap_byte g p < length b = map_in g home N law p b s (omega arith) in
      gained_cong k (mark g p b) b₁ (mark_length g p b ∙ s) (st.size ∙ sym (mark_length g p b))
      (λ q u. omega (arith, step_bits g home N p joint b b₁ st p0 q u, mark_bits g b p fit p0 q))

  pub grown_is : (k : ℕ) (joint : Field) (own : ℕ) (b : Bytes) → Room g home N k joint own b → Grown g home N (gained g N k b) k joint b (grown g N k joint b)
  unfolding grown gained chain beyond
  grown_is zero joint own b r = record {
    size = refl;
    bits = λ q l. omega arith;
    count = omega arith;
    rest = λ i h o m. refl;
    zeroed = λ p i m. absurd (omega arith);
    pages = refl;
    ends = r.empty;
  }
  grown_is (suc k) joint own b r =
      let p = lowest_free g N b in
      let b₁ : Bytes = store joint p (taken g p b) in
      let t = room_next k joint own b r in
      let st : Step g home N p joint b b₁ = t.3 in
      let r₁ : Room g home N k (g.link p) p b₁ = t.4 in
      let n : Gained g N k b₁ = gained_is k b₁ r₁.size r₁.aside r₁.enough in
      let b' : Bytes = grown g N k (g.link p) b₁ in
      let others : Grown g home N (gained g N k b₁) k (g.link p) b₁ b' = grown_is k (g.link p) p b₁ r₁ in
      let p0 : page_bit g b p ≡ 0 = (lowest_free_lem g N b (omega (arith, r.enough))).1 in
      let all = joined p k joint own b b₁ b' (gained g N k b₁) st others t.0 t.1 p0 r.held t.2 (λ q u. not_gained g N n q u) in
      subst (λ (qs : List ℕ). Grown g home N (p ∷ qs) (suc k) joint b b') (gained_next k p joint b b₁ r.size t.1 p0 st) all
