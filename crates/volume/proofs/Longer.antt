-- A chain grown by k pages is the old chain with the gained pages at its end:
-- the joint is the field that names its first page or the link of its last, and every other link stays.
use mathlib.Core.Path.{◌≡◌, sym, ap, ◌∙◌, subst}
use mathlib.Core.Logic.{◌≢◌}
use Prim.Native.Nat.{ℕ, zero, suc, ◌+◌, ◌≤◌, ◌<◌}
use native.Mathlib.Omega.{arith}
use native.Mathlib.Nat.{zero-add}
use native.Mathlib.Decide.{ℕ_discrete}
use mathlib.Core.List.{List, ◌++◌}
use Rattle.volume.specs.Bytes.{Bytes, byte_at}
use Rattle.volume.specs.Chain.{chain, beyond}
use Rattle.volume.specs.Field.{Field, load}
use Rattle.volume.specs.Geometry.{Geometry, start, next, page_bit, zero_bits, grown, gained, joint_of}
use Rattle.volume.proofs.Occ.{occ, Nodup, occ_append, mem_apart}
use Rattle.volume.proofs.Chains.{chain_last, beyond_suc, last_in, chain_longer}
use Rattle.volume.proofs.Fields.{place, wide, Off, load_same}
use Rattle.volume.proofs.Lawful.{Sized, Kept, Lawful}
use Rattle.volume.proofs.Pages.{off_link, page_kept, link_kept}
use Rattle.volume.proofs.Grow.{gained_is, not_gained, Held, Room, Grown, grown_is}

-- ---- a chain whose first page is named at a field

module _ (g : Geometry) where
  abbrev pub chain_at : Bytes → Field → ℕ → List ℕ
  chain_at b entry j = chain (next g b) j (load entry b)

  abbrev pub joint_at : Bytes → Field → ℕ → Field
  joint_at b entry j = joint_of g entry (chain_at b entry j)

  -- the page of the joint: the field's, or the chain's last
  abbrev pub joint_page : Bytes → Field → (own j : ℕ) → ℕ
  joint_page b entry own zero = own
  joint_page b entry own (suc j) = beyond (next g b) j (load entry b)

  pub joint_last : (b : Bytes) (entry : Field) (j : ℕ) → joint_at b entry (suc j) ≡ g.link (beyond (next g b) j (load entry b))
  unfolding joint_of chain
  joint_last b entry j = ap g.link (chain_last (next g b) j (load entry b))

module _ (g : Geometry) (home : ℕ → ℕ) (N : ℕ) where
  -- what a sound image says of a chain of j pages that starts at a field of page `own`
  pub record Chained (b : Bytes) (entry : Field) (own j : ℕ) : Type 0 where
    pub size : Sized g N b
    pub aside : (q : ℕ) → q < g.aside → page_bit g b q ≡ 1
    pub held : Held g home N (place entry) (wide entry) own b
    pub apart : occ own (chain_at g b entry j) ≡ 0
    pub pages : (q : ℕ) → 1 ≤ occ q (chain_at g b entry j) → (g.aside ≤ q) × (q < N) × (page_bit g b q ≡ 1)
    pub once : Nodup (chain_at g b entry j)
    pub ends : beyond (next g b) j (load entry b) ≡ 0

  -- the chain has j pages in b, and in b' the pages qs besides
  pub record Longer (b b' : Bytes) (entry : Field) (own j k : ℕ) (qs : List ℕ) : Type 0 where
    pub pages : chain_at g b' entry (j + k) ≡ chain_at g b entry j ++ qs
    pub ends : beyond (next g b') (j + k) (load entry b') ≡ 0
    -- its old content stays, and so does every byte of other pages but for the field
    pub old : (q i : ℕ) → 1 ≤ occ q (chain_at g b entry j) → start g q ≤ i → i < start g q + g.size → Off (g.link q) i → byte_at b' i ≡ byte_at b i
    pub rest : (i : ℕ) → Kept g N i → Off entry i → occ (home i) (chain_at g b entry j ++ qs) ≡ 0 → byte_at b' i ≡ byte_at b i
    pub apart : occ own (chain_at g b entry j ++ qs) ≡ 0

module _ {g : Geometry} {home : ℕ → ℕ} {N : ℕ} (law : Lawful g home N) where
  pub chain_room : (b : Bytes) (entry : Field) (own j k : ℕ) → Chained g home N b entry own j → k ≤ zero_bits g b N
      → Room g home N k (joint_at g b entry j) (joint_page g b entry own j) b
  unfolding joint_of chain beyond
  chain_room b entry own zero k c h = record { size = c.size; aside = c.aside; enough = h; held = c.held; empty = c.ends }
  chain_room b entry own (suc j) k c h =
      let p : ℕ = beyond (next g b) j (load entry b) in
      let t = c.pages p (last_in (next g b) j (load entry b)) in
      let r : Room g home N k (g.link p) p b = record {
        size = c.size;
        aside = c.aside;
        enough = h;
        empty = sym (beyond_suc (next g b) j (load entry b)) ∙ c.ends;
        held = record {
          inside = omega (arith, law.links_in p t.1, c.size);
          bytes = λ i u v. (law.of_link p i t.1 u v, link_kept g home N law p i t.0 t.1 u v);
          page = t.1;
          marked = t.2;
        };
      } in
      subst (λ (f : Field). Room g home N k f p b) (sym (joint_last g b entry j)) r

  -- bytes of other pages are outside of the joint
  joint_off : (b : Bytes) (entry : Field) (own j : ℕ) → Chained g home N b entry own j → (i : ℕ) → Off entry i → occ (home i) (chain_at g b entry j) ≡ 0
      → Off (joint_at g b entry j) i
  unfolding joint_of chain
  joint_off b entry own zero c i o m = o
  joint_off b entry own (suc j) c i o m =
      let p : ℕ = beyond (next g b) j (load entry b) in
      let here : 1 ≤ occ p (chain_at g b entry (suc j)) = last_in (next g b) j (load entry b) in
      subst (λ (f : Field). Off f i) (sym (joint_last g b entry j))
      (off_link g home N law p i (c.pages p here).1 (λ e. mem_apart p (home i) (chain_at g b entry (suc j)) here m (sym e)))

  pub chain_grown : (b : Bytes) (entry : Field) (own j k : ℕ) → Chained g home N b entry own j → k ≤ zero_bits g b N
      → Grown g home N (gained g N k b) k (joint_at g b entry j) b (grown g N k (joint_at g b entry j) b)
  chain_grown b entry own j k c h = grown_is law k (joint_at g b entry j) (joint_page g b entry own j) b (chain_room b entry own j k c h)

  module _ (b b' : Bytes) (entry : Field) (own : ℕ) (qs : List ℕ) (out : (q : ℕ) → page_bit g b q ≡ 1 → occ q qs ≡ 0) where
    rest_from : (j k : ℕ) → Chained g home N b entry own j → Grown g home N qs k (joint_at g b entry j) b b'
        → (i : ℕ) → Kept g N i → Off entry i → occ (home i) (chain_at g b entry j ++ qs) ≡ 0 → byte_at b' i ≡ byte_at b i
    rest_from j k c w i h o m =
        let both = occ_append (home i) (chain_at g b entry j) qs in
        w.rest i h (joint_off b entry own j c i o (omega arith)) (omega arith)

    -- the joint is the link of p: bytes and links of marked pages other than p stay
    other_byte : (p k : ℕ) → p < N → Grown g home N qs k (g.link p) b b' → (i q : ℕ) → home i ≡ q → q ≢ p → page_bit g b q ≡ 1 → Kept g N i → byte_at b' i ≡ byte_at b i
    other_byte p k hp w i q e ne u h = w.rest i h (off_link g home N law p i hp (λ v. ne (sym e ∙ v))) (ap (λ (x : ℕ). occ x qs) e ∙ out q u)

    other_link : (p k : ℕ) → p < N → Grown g home N qs k (g.link p) b b' → (q : ℕ) → g.aside ≤ q → q < N → page_bit g b q ≡ 1 → q ≢ p → next g b' q ≡ next g b q
    other_link p k hp w q ha hq u ne =
        load_same (g.link q) b b' (λ i l m. other_byte p k hp w i q (law.of_link q i hq l m) ne u (link_kept g home N law q i ha hq l m))

    longer_from : (j k : ℕ) → Chained g home N b entry own j → Grown g home N qs k (joint_at g b entry j) b b' → Longer g home N b b' entry own j k qs
    unfolding joint_of chain beyond
    longer_from zero k c w = record {
      pages = ap (λ (n : ℕ). chain_at g b' entry n) (zero-add k) ∙ w.pages;
      ends = ap (λ (n : ℕ). beyond (next g b') n (load entry b')) (zero-add k) ∙ w.ends;
      old = λ q i m. absurd (omega arith);
      rest = rest_from zero k c w;
      apart = out own c.held.marked;
    }
    longer_from (suc j) k c w =
        let ps : List ℕ = chain_at g b entry (suc j) in
        let p : ℕ = beyond (next g b) j (load entry b) in
        let here : 1 ≤ occ p ps = last_in (next g b) j (load entry b) in
        let hp : p < N = (c.pages p here).1 in
        let w₁ : Grown g home N qs k (g.link p) b b' = subst (λ (f : Field). Grown g home N qs k f b b') (joint_last g b entry j) w in
        let ne : own ≢ p = λ e. mem_apart p own ps here c.apart (sym e) in
        let held = c.held in
        let first = load_same entry b b' (λ i l m. other_byte p k hp w₁ i own (held.bytes i l m).0 ne held.marked (held.bytes i l m).1) in
        let links : (q : ℕ) → 1 ≤ occ q ps → q ≢ p → next g b' q ≡ next g b q = λ q m. other_link p k hp w₁ q (c.pages q m).0 (c.pages q m).1 (c.pages q m).2 in
        let r = chain_longer (next g b) (next g b') j k (load entry b) qs c.once links w₁.pages w₁.ends in
        record {
          pages = ap (chain (next g b') (suc j + k)) first ∙ r.0;
          ends = ap (beyond (next g b') (suc j + k)) first ∙ r.1;
          old = λ q i m l u o.
              let t = c.pages q m in
              let e : home i ≡ q = law.of_page q i t.0 l u in
              let h : Kept g N i = page_kept g home N law q i t.0 l u in
              elim (ℕ_discrete q p) [
                | yes v ↦ w₁.rest i h (subst (λ (x : ℕ). Off (g.link x) i) v o) (ap (λ (x : ℕ). occ x qs) e ∙ out q t.2)
                | no v ↦ other_byte p k hp w₁ i q e v t.2 h
              ];
          rest = rest_from (suc j) k c w;
          apart = omega (arith, occ_append own ps qs, c.apart, out own held.marked);
        }

  pub chain_longer_is : (b : Bytes) (entry : Field) (own j k : ℕ) → Chained g home N b entry own j → k ≤ zero_bits g b N
      → Longer g home N b (grown g N k (joint_at g b entry j) b) entry own j k (gained g N k b)
  chain_longer_is b entry own j k c h =
      longer_from b (grown g N k (joint_at g b entry j) b) entry own (gained g N k b)
      (λ q u. not_gained g N (gained_is law k b c.size c.aside h) q u) j k c (chain_grown b entry own j k c h)
