-- Bytes of an entry put, a chain begun behind them, and an entry given up: what becomes of bits, count and pages, and that all else stays.
-- The entry's bytes are apart from count and bitmap, and its page is none of those taken.
use mathlib.Core.Path.{◌≡◌, refl, sym, ap, ◌∙◌, subst}
use mathlib.Core.Logic.{◌≢◌}
use Prim.Native.Nat.{ℕ, ◌+◌, ◌-◌, ◌≤◌, ◌<◌}
use native.Mathlib.Omega.{arith}
use mathlib.Core.List.{List, foldl}
use lib.ListN.{length, set}
use Rattle.volume.specs.Bytes.{Bytes, byte_at, put}
use Rattle.volume.specs.Chain.{beyond}
use Rattle.volume.specs.Field.{Field, byte, load}
use Rattle.volume.specs.Geometry.{Geometry, start, next, free_count, bitmap_byte, page_bit, zero_bits, released, grown, gained}
use Rattle.volume.proofs.Occ.{occ, Nodup}
use Rattle.volume.proofs.Puts.{not_inside, put_length, put_out, put_in}
use Rattle.volume.proofs.Fields.{place, wide, Off, store_length, store_out, load_store, load_same}
use Rattle.volume.proofs.Lawful.{Sized, Kept, Lawful}
use Rattle.volume.proofs.Marks.{zeros_cong}
use Rattle.volume.proofs.Pages.{bits_same, Freed, freed_is}
use Rattle.volume.proofs.Grow.{Gained, gained_is, gained_cong, not_gained, Held, Room, Grown, grown_is}
use Rattle.volume.proofs.Longer.{chain_at}

module _ (g : Geometry) (N : ℕ) where
  -- b' is b with w at position `at`
  pub record Edited (at : ℕ) (w b b' : Bytes) : Type 0 where
    pub size : length b' ≡ length b
    pub bits : (q : ℕ) → q < N → page_bit g b' q ≡ page_bit g b q
    pub count : free_count g b' ≡ free_count g b
    pub rest : (i : ℕ) → (at ≤ i → at + length w ≤ i) → byte_at b' i ≡ byte_at b i
    pub there : (i : ℕ) → i < length w → byte_at b' (at + i) ≡ byte_at w i

  -- b' is b with the pages ps given back, and 0 at the byte
  pub record Removed (b b' : Bytes) (at : ℕ) (ps : List ℕ) : Type 0 where
    pub size : length b' ≡ length b
    pub bits : (q : ℕ) → q < N → page_bit g b' q + occ q ps ≡ page_bit g b q
    pub count : free_count g b' ≡ free_count g b + length ps
    pub rest : (i : ℕ) → Kept g N i → i ≢ at → byte_at b' i ≡ byte_at b i
    pub flag : byte_at b' at ≡ 0

module _ (g : Geometry) (home : ℕ → ℕ) (N : ℕ) where
  -- b' is b with w at position `at`, and the new pages qs in a chain that starts at the field
  pub record Made (b b' : Bytes) (at : ℕ) (w : Bytes) (entry : Field) (k : ℕ) (qs : List ℕ) : Type 0 where
    pub size : length b' ≡ length b
    pub bits : (q : ℕ) → q < N → page_bit g b' q ≡ page_bit g b q + occ q qs
    pub count : free_count g b' ≡ free_count g b - k
    pub rest : (i : ℕ) → Kept g N i → (at ≤ i → at + length w ≤ i) → occ (home i) qs ≡ 0 → byte_at b' i ≡ byte_at b i
    pub there : (i : ℕ) → i < length w → Off entry (at + i) → byte_at b' (at + i) ≡ byte_at w i
    pub zeroed : (p i : ℕ) → 1 ≤ occ p qs → start g p ≤ i → i < start g p + g.size → Off (g.link p) i → byte_at b' i ≡ 0
    pub pages : chain_at g b' entry k ≡ qs
    pub ends : beyond (next g b') k (load entry b') ≡ 0

  pub edited_is : (at own : ℕ) (w b : Bytes) → Held g home N at (length w) own b → Edited g N at w b (put at w b)
  edited_is at own w b h = record {
    size = put_length at w b h.inside;
    bits = bits_same g N b (put at w b) (λ q l. off (bitmap_byte g q) (λ k. k.map q l refl));
    count = load_same g.count b (put at w b) (λ i l m. off i (λ k. omega (arith, k.count l)));
    rest = put_out at w b h.inside;
    there = put_in at w b h.inside;
  }
    where
      off : (i : ℕ) → (Kept g N i → ⊥) → byte_at (put at w b) i ≡ byte_at b i
      off i bad = put_out at w b h.inside i (not_inside at (length w) i (λ l k. bad (h.bytes i l k).1))

module _ {g : Geometry} {home : ℕ → ℕ} {N : ℕ} (law : Lawful g home N) where
  -- with an entry's bytes put there is room to grow from its field
  pub made_room : (b : Bytes) (at own : ℕ) (w : Bytes) (entry : Field) (k : ℕ) → Sized g N b → ((q : ℕ) → q < g.aside → page_bit g b q ≡ 1) → g.aside ≤ N
      → Held g home N at (length w) own b → at ≤ place entry → place entry + wide entry ≤ at + length w → load entry (put at w b) ≡ 0 → k ≤ zero_bits g b N
      → Room g home N k entry own (put at w b)
  made_room b at own w entry k s a an h lo hi z hk =
      let e : Edited g N at w b (put at w b) = edited_is g home N at own w b h in
      record {
        size = e.size ∙ s;
        aside = λ q u. e.bits q (omega arith) ∙ a q u;
        enough = omega (arith, zeros_cong g b (put at w b) N e.bits, hk);
        empty = z;
        held = record {
          inside = omega (arith, e.size, h.inside);
          bytes = λ i u v. h.bytes i (omega arith) (omega arith);
          page = h.page;
          marked = e.bits own h.page ∙ h.marked;
        };
      }

  pub made_is : (b : Bytes) (at own : ℕ) (w : Bytes) (entry : Field) (k : ℕ) → Sized g N b → ((q : ℕ) → q < g.aside → page_bit g b q ≡ 1) → g.aside ≤ N
      → Held g home N at (length w) own b → at ≤ place entry → place entry + wide entry ≤ at + length w → load entry (put at w b) ≡ 0 → k ≤ zero_bits g b N
      → Made g home N b (grown g N k entry (put at w b)) at w entry k (gained g N k b)
  made_is b at own w entry k s a an h lo hi z hk =
      let b₀ : Bytes = put at w b in
      let b' : Bytes = grown g N k entry b₀ in
      let e : Edited g N at w b b₀ = edited_is g home N at own w b h in
      let r : Room g home N k entry own b₀ = made_room b at own w entry k s a an h lo hi z hk in
      let t : Grown g home N (gained g N k b₀) k entry b₀ b' = grown_is law k entry own b₀ r in
      let n : Gained g N k b₀ = gained_is law k b₀ r.size r.aside r.enough in
      let m : Made g home N b b' at w entry k (gained g N k b₀) = record {
        size = t.size ∙ e.size;
        bits = λ q l. omega (arith, t.bits q l, e.bits q l);
        count = t.count ∙ ap (λ (x : ℕ). x - k) e.count;
        rest = λ i u o x. t.rest i u (λ l. omega (arith, o (omega arith))) x ∙ e.rest i o;
        there = λ i l o.
            let y = h.bytes (at + i) (omega arith) (omega arith) in
            t.rest (at + i) y.1 o (ap (λ (x : ℕ). occ x (gained g N k b₀)) y.0 ∙ not_gained g N n own r.held.marked) ∙ e.there i l;
        zeroed = t.zeroed;
        pages = t.pages;
        ends = t.ends;
      } in
      subst (λ (qs : List ℕ). Made g home N b b' at w entry k qs) (gained_cong law k b b₀ s e.size e.bits) m

  pub removed_is : (b : Bytes) (at : ℕ) (ps : List ℕ) → Sized g N b → at < length b → Kept g N at
      → ((p : ℕ) → 1 ≤ occ p ps → (p < N) × (page_bit g b p ≡ 1)) → Nodup ps
      → Removed g N b (set (foldl (released g) b ps) at 0) at ps
  removed_is b at ps s fits kept used once =
      let f : Freed g N ps b (foldl (released g) b ps) = freed_is g home N law ps b s used once in
      let b₁ : Bytes = foldl (released g) b ps in
      let other : (i : ℕ) → i ≢ at → byte_at (set b₁ at 0) i ≡ byte_at b₁ i = λ i ne. store_out (byte at) 0 b₁ i (λ l. omega (arith, ne)) in
      record {
        size = store_length (byte at) 0 b₁ ∙ f.size;
        bits = λ q l. ap (λ (x : ℕ). x + occ q ps) (bits_same g N b₁ (set b₁ at 0) (λ q l. other (bitmap_byte g q) (λ e. kept.map q l (sym e))) q l) ∙ f.bits q l;
        count = load_same g.count b₁ (set b₁ at 0) (λ i l m. other i (λ e. omega (arith, kept.count (subst (λ (y : ℕ). place g.count ≤ y) e l), e, m))) ∙ f.count;
        rest = λ i k ne. other i ne ∙ f.rest i k;
        flag = load_store (byte at) 0 b₁ (omega (arith, f.size));
      }
