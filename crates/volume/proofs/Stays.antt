-- Bytes that stay when pages are taken, written over and given back: each step touches the count, the bitmap byte of its page, the page it takes, the
-- joint, and the places that are written; so a byte that is none of these is the same afterwards.
use mathlib.Core.Path.{◌≡◌, refl, ◌∙◌, subst}
use mathlib.Core.Logic.{◌≢◌, inl, inr}
use Prim.Native.Nat.{ℕ, zero, suc, ◌+◌, ◌-◌, ◌≤◌, ◌<◌}
use native.Mathlib.Omega.{arith}
use mathlib.Core.List.{List, [], ◌∷◌, ◌++◌, foldl}
use lib.ListN.{length, replicate, length-replicate}
use Rattle.volume.specs.Bytes.{Bytes, byte_at, put}
use Rattle.volume.specs.Chain.{along}
use Rattle.volume.specs.Field.{Field, load, store}
use Rattle.volume.specs.Geometry.{Geometry, start, content, free_count, bitmap_byte, page_bit, zero_bits, lowest_free, mark, unmark, taken, released, grown, gained, written}
use Rattle.volume.proofs.Occ.{Mem, mem_head, mem_tail, mem_or_not, occ_append}
use Rattle.volume.proofs.Puts.{put_length, put_out}
use Rattle.volume.proofs.Fields.{place, wide, Off, store_length, store_out}
use Rattle.volume.proofs.Lawful.{Sized, Lawful}
use Rattle.volume.proofs.Marks.{mark_length, mark_out, unmark_out, lowest_free_lem}
use Rattle.volume.proofs.Pages.{page_in}
use Rattle.volume.proofs.Spreads.{spread_elsewhere}
use Rattle.volume.proofs.Grow.{Gained, gained_is, gained_cong, gained_next, Held, Room, room_next}
use Rattle.volume.proofs.Longer.{chain_at, joint_at, joint_page, Chained, chain_room, chain_grown}
use Rattle.volume.proofs.Writes.{Beside, content_end}
use Rattle.volume.proofs.Entries.{edited_is, made_room}

module _ (g : Geometry) where
  -- byte i holds neither the count nor the bit of page p
  pub record Unmarked (p i : ℕ) : Type 0 where
    pub count : Off g.count i
    pub map : i ≢ bitmap_byte g p

  -- nor is it a byte of the page or of its link
  pub record Elsewhere (p i : ℕ) : Type 0 where
    pub marks : Unmarked p i
    pub link : Off (g.link p) i
    pub page : start g p ≤ i → start g p + g.size ≤ i

  pub released_stays : (ps : List ℕ) (b : Bytes) (i : ℕ) → ((p : ℕ) → Mem p ps → Unmarked p i) → byte_at (foldl (released g) b ps) i ≡ byte_at b i
  unfolding released
  released_stays [] b i h = refl
  released_stays (p ∷ ps) b i h =
      let u = h p (mem_head p ps) in
      released_stays ps (released g b p) i (λ q m. h q (mem_tail q p ps m))
      ∙ store_out g.count (free_count g b + 1) (unmark g p b) i u.count ∙ unmark_out g p b i u.map

module _ {g : Geometry} {home : ℕ → ℕ} {N : ℕ} (law : Lawful g home N) where
  taken_stays : (p : ℕ) (b : Bytes) → Sized g N b → p < N → (i : ℕ) → Elsewhere g p i → byte_at (taken g p b) i ≡ byte_at b i
  unfolding taken
  taken_stays p b s hp i e =
      let zeros : Bytes = replicate g.size 0 in
      let b₁ : Bytes = store g.count (free_count g b - 1) (mark g p b) in
      let b₂ : Bytes = store (g.link p) 0 b₁ in
      let lz : length zeros ≡ g.size = length-replicate {A = ℕ} g.size 0 in
      let len : length b₂ ≡ length b = store_length (g.link p) 0 b₁ ∙ store_length g.count (free_count g b - 1) (mark g p b) ∙ mark_length g p b in
      put_out (start g p) zeros b₂ (omega (arith, lz, len, page_in g home N law p hp, s)) i (λ l. omega (arith, lz, e.page l))
      ∙ store_out (g.link p) 0 b₁ i e.link
      ∙ store_out g.count (free_count g b - 1) (mark g p b) i e.marks.count ∙ mark_out g p b i e.marks.map

  pub grown_stays : (k : ℕ) (joint : Field) (own : ℕ) (b : Bytes) → Room g home N k joint own b
      → (i : ℕ) → (1 ≤ k → Off joint i) → ((p : ℕ) → Mem p (gained g N k b) → Elsewhere g p i) → byte_at (grown g N k joint b) i ≡ byte_at b i
  unfolding grown gained
  grown_stays zero joint own b r i o e = refl
  grown_stays (suc k) joint own b r i o e =
      let p = lowest_free g N b in
      let b₁ : Bytes = store joint p (taken g p b) in
      let t = room_next law k joint own b r in
      let p0 : page_bit g b p ≡ 0 = (lowest_free_lem g N b (omega (arith, r.enough))).1 in
      let here : Elsewhere g p i = e p (mem_head p (gained g N k (mark g p b))) in
      let others = gained_next law k p joint b b₁ r.size t.1 p0 t.3 in
      grown_stays k (g.link p) p b₁ t.4 i (λ l. here.link)
      (λ q m. e q (mem_tail q p (gained g N k (mark g p b)) (subst (λ (qs : List ℕ). Mem q qs) others m)))
      ∙ store_out joint p (taken g p b) i (o (omega arith)) ∙ taken_stays p b r.size t.1 i here

  -- w put at position `at`, and a chain of k new pages begun at a field of it
  pub made_stays : (b : Bytes) (at own : ℕ) (w : Bytes) (entry : Field) (k : ℕ) → Sized g N b → ((q : ℕ) → q < g.aside → page_bit g b q ≡ 1) → g.aside ≤ N
      → Held g home N at (length w) own b → at ≤ place entry → place entry + wide entry ≤ at + length w → load entry (put at w b) ≡ 0 → k ≤ zero_bits g b N
      → (i : ℕ) → (at ≤ i → at + length w ≤ i) → ((p : ℕ) → Mem p (gained g N k b) → Elsewhere g p i) → byte_at (grown g N k entry (put at w b)) i ≡ byte_at b i
  made_stays b at own w entry k s a an h lo hi z hk i o e =
      let d = edited_is g home N at own w b h in
      let same = gained_cong law k b (put at w b) s d.size d.bits in
      grown_stays k entry own (put at w b) (made_room law b at own w entry k s a an h lo hi z hk) i (λ x l. omega (arith, o (omega arith)))
      (λ p m. e p (subst (λ (qs : List ℕ). Mem p qs) same m))
      ∙ d.rest i o

  pub written_stays : (b : Bytes) (entry : Field) (own j k at : ℕ) (w : Bytes) (from : ℕ) (v : Bytes) → Chained g home N b entry own j → Beside g home N entry own at (length w) b
      → k ≤ zero_bits g b N → (i : ℕ) → (1 ≤ k → Off (joint_at g b entry j) i) → (at ≤ i → at + length w ≤ i) → ((p : ℕ) → Mem p (gained g N k b) → Elsewhere g p i)
      → ((n : ℕ) → from ≤ n → n < from + length v → i ≢ along (content g) g.room (chain_at g b entry j ++ gained g N k b) n)
      → byte_at (written g N entry (chain_at g b entry j) k at w from v b) i ≡ byte_at b i
  unfolding written
  written_stays b entry own j k at w from v c d hk i o x e out =
      let ps : List ℕ = chain_at g b entry j in
      let qs : List ℕ = gained g N k b in
      let b₁ : Bytes = grown g N k (joint_at g b entry j) b in
      let n : Gained g N k b = gained_is law k b c.size c.aside hk in
      let size₁ : length b₁ ≡ length b = (chain_grown law b entry own j k c hk).size in
      let fit : at + length w ≤ length b₁ = omega (arith, size₁, d.inside) in
      let size₂ : length (put at w b₁) ≡ length b = put_length at w b₁ fit ∙ size₁ in
      let inside : (p : ℕ) → Mem p (ps ++ qs) → p < N = λ p m. elim (mem_or_not p ps) [
        | inl h ↦ (c.pages p h).1
        | inr z ↦ (n.new p (omega (arith, occ_append p ps qs))).1
      ] in
      spread_elsewhere (content g) g.room (ps ++ qs) from v (put at w b₁)
      (λ p m. omega (arith, content_end law p, page_in g home N law p (inside p m), c.size, size₂)) i out
      ∙ put_out at w b₁ fit i x
      ∙ grown_stays k (joint_at g b entry j) (joint_page g b entry own j) b (chain_room law b entry own j k c hk) i o e
