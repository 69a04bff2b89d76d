-- Two images that are the same but for the content of some pages: what is stored in both keeps them so, and what a write puts over all of that content
-- makes them equal. So pages that a write covers need no zeros before.
use mathlib.Core.Path.{◌≡◌, sym, ap, ◌∙◌, subst, subst₂}
use mathlib.Core.Logic.{◌≢◌, inl, inr}
use Prim.Native.Nat.{ℕ, ◌+◌, ◌-◌, ◌*◌, ◌^◌, ◌%◌, ◌/◌, ◌≤◌, ◌<◌}
use native.Mathlib.Nat.{mul-suc, mul-zero}
use native.Mathlib.Omega.{arith}
use native.Mathlib.Decide.{dec_lt, ℕ_discrete}
use mathlib.Core.List.{List, [], ◌∷◌, ◌++◌}
use lib.ListN.{length, set, take, drop, length-take, length-drop, length-set}
use lib.Seq.{ext_get_or, get_or-set_same, get_or-set_other}
use Rattle.volume.specs.Bytes.{Bytes, byte_at, put}
use Rattle.volume.specs.Chain.{spread}
use Rattle.volume.specs.Field.{Field, byte, pair, store}
use Rattle.volume.specs.Geometry.{Geometry, content, bitmap_byte, page_bit, mark}
use Rattle.volume.proofs.Occ.{Mem, mem_cons, mem_head, mem_tail}
use Rattle.volume.proofs.Puts.{put_length, put_out, put_in}
use Rattle.volume.proofs.Fields.{place, wide, store_length}
use Rattle.volume.proofs.Marks.{bit_byte, mark_length}
use Rattle.volume.proofs.Writing.{none_put, spread_turn, piece_length}

-- ---- a byte that is the same, or is stored to in both

module _ (b b' : Bytes) (size : length b' ≡ length b) (i : ℕ) where
  put_alike : (at : ℕ) (w : Bytes) → at + length w ≤ length b → ((at ≤ i → at + length w ≤ i) → byte_at b' i ≡ byte_at b i)
      → byte_at (put at w b') i ≡ byte_at (put at w b) i
  put_alike at w h same = elim (dec_lt i at) [
    | yes l ↦ outside (λ u. omega arith)
    | no l ↦ elim (dec_lt i (at + length w)) [
      | yes u ↦
          let here : i ≡ at + (i - at) = omega arith in
          ap (byte_at (put at w b')) here ∙ put_in at w b' (omega arith) (i - at) (omega arith)
          ∙ sym (ap (byte_at (put at w b)) here ∙ put_in at w b h (i - at) (omega arith))
      | no u ↦ outside (λ v. omega arith)
    ]
  ]
    where
      outside : (at ≤ i → at + length w ≤ i) → byte_at (put at w b') i ≡ byte_at (put at w b) i
      outside o = put_out at w b' (omega arith) i o ∙ same o ∙ sym (put_out at w b h i o)

  set_alike : (j n : ℕ) → j < length b → (i ≢ j → byte_at b' i ≡ byte_at b i) → byte_at (set b' j n) i ≡ byte_at (set b j n) i
  set_alike j n h same = elim (ℕ_discrete i j) [
    | yes e ↦
        ap (byte_at (set b' j n)) e ∙ get_or-set_same b' j n 0 (omega arith)
        ∙ sym (ap (byte_at (set b j n)) e ∙ get_or-set_same b j n 0 h)
    | no ne ↦ get_or-set_other b' j i n 0 ne ∙ same ne ∙ sym (get_or-set_other b j i n 0 ne)
  ]

store_alike : (f : Field) (n : ℕ) (b b' : Bytes) → length b' ≡ length b → place f + wide f ≤ length b → (i : ℕ) → byte_at b' i ≡ byte_at b i
    → byte_at (store f n b') i ≡ byte_at (store f n b) i
store_alike (byte j) n b b' e h i same = set_alike b b' e i j n (omega arith) (λ ne. same)
store_alike (pair j) n b b' e h i same =
    set_alike (set b j (n % 256)) (set b' j (n % 256)) (length-set b' j (n % 256) ∙ e ∙ sym (length-set b j (n % 256))) i (j + 1) (n / 256)
    (omega (arith, length-set b j (n % 256))) (λ ne. set_alike b b' e i j (n % 256) (omega arith) (λ ne. same))

module _ (g : Geometry) where
  -- byte i is content of none of the pages
  abbrev pub OffContent : List ℕ → ℕ → Type 0
  OffContent qs i = (q : ℕ) → Mem q qs → content g q ≤ i → content g q + g.room ≤ i

  -- b' is b but for the content of the pages qs
  pub record ButFor (qs : List ℕ) (b b' : Bytes) : Type 0 where
    pub size : length b' ≡ length b
    pub bytes : (i : ℕ) → OffContent qs i → byte_at b' i ≡ byte_at b i

module _ {g : Geometry} {b b' : Bytes} where
  pub but_none : ButFor g [] b b' → b' ≡ b
  but_none r = ext_get_or 0 b' b r.size (λ i l. r.bytes i (λ q m. absurd (omega arith)))

  pub but_more : {qs rs : List ℕ} → ((q : ℕ) → Mem q qs → Mem q rs) → ButFor g qs b b' → ButFor g rs b b'
  but_more more r = record { size = r.size; bytes = λ i o. r.bytes i (λ q m. o q (more q m)) }

  -- the content of page q is put in both, all of it
  covered_page : (q : ℕ) {qs : List ℕ} (at : ℕ) (w : Bytes) → at ≡ content g q → length w ≡ g.room → at + length w ≤ length b
      → ButFor g (q ∷ qs) b b' → ButFor g qs (put at w b) (put at w b')
  covered_page q {qs} at w e l h r = record {
    size = put_length at w b' (omega (arith, r.size)) ∙ r.size ∙ sym (put_length at w b h);
    bytes = λ i o. put_alike b b' r.size i at w h (λ out. r.bytes i (λ x m. elim (mem_cons x q qs m) [
      | inl same ↦ subst (λ (y : ℕ). content g y ≤ i → content g y + g.room ≤ i) (sym same) (λ u. omega (arith, out (omega arith)))
      | inr k ↦ o x k
    ]));
  }

  -- the same is put or stored in both
  module _ {qs : List ℕ} (r : ButFor g qs b b') where
    pub but_put : (at : ℕ) (w : Bytes) → at + length w ≤ length b → ButFor g qs (put at w b) (put at w b')
    but_put at w h = record {
      size = put_length at w b' (omega (arith, r.size)) ∙ r.size ∙ sym (put_length at w b h);
      bytes = λ i o. put_alike b b' r.size i at w h (λ out. r.bytes i o);
    }

    pub but_store : (f : Field) (n : ℕ) → place f + wide f ≤ length b → ButFor g qs (store f n b) (store f n b')
    but_store f n h = record {
      size = store_length f n b' ∙ r.size ∙ sym (store_length f n b);
      bytes = λ i o. store_alike f n b b' r.size h i (r.bytes i o);
    }

    pub but_mark : (p : ℕ) → bitmap_byte g p < length b → OffContent g qs (bitmap_byte g p) → ButFor g qs (mark g p b) (mark g p b')
    unfolding mark
    but_mark p h off =
        let e : byte_at b' (bitmap_byte g p) ≡ byte_at b (bitmap_byte g p) = r.bytes (bitmap_byte g p) off in
        let x : ℕ → ℕ → ℕ = λ y z. y + (1 - z) * 2 ^ (p % 8) in
        record {
          size = mark_length g p b' ∙ r.size ∙ sym (mark_length g p b);
          bytes = λ i o.
              ap (λ (y : ℕ). byte_at (set b' (bitmap_byte g p) (x y (page_bit g b' p))) i) e
              ∙ ap (λ (z : ℕ). byte_at (set b' (bitmap_byte g p) (x (byte_at b (bitmap_byte g p)) z)) i) (bit_byte g b b' p e)
              ∙ set_alike b b' r.size i (bitmap_byte g p) (x (byte_at b (bitmap_byte g p)) (page_bit g b p)) h (λ ne. r.bytes i o);
        }

    but_piece : (p at : ℕ) (v : Bytes) → content g p + g.room ≤ length b
        → ButFor g qs (put (content g p + at) (take (g.room - at) v) b) (put (content g p + at) (take (g.room - at) v) b')
    but_piece p at v h = elim (dec_lt at g.room) [
      | yes l ↦ but_put (content g p + at) (take (g.room - at) v) (omega (arith, length-take (g.room - at) v))
      | no l ↦ subst₂ (ButFor g qs) (none_put (content g p + at) g.room at v b (omega arith)) (none_put (content g p + at) g.room at v b' (omega arith)) r
    ]

-- ---- bytes spread over the pages: from a place on the pages ps, and over all the content of the pages qs

module _ (g : Geometry) where
  -- the pages' content lies in the image
  abbrev Lie : List ℕ → Bytes → Type 0
  Lie ps b = (p : ℕ) → Mem p ps → content g p + g.room ≤ length b

  covered : (qs rs : List ℕ) (at : ℕ) (v b b' : Bytes) → at ≡ 0 → ButFor g qs b b' → Lie qs b → g.room * length qs ≤ length v
      → spread (content g) g.room (qs ++ rs) at v b' ≡ spread (content g) g.room (qs ++ rs) at v b
  covered [] rs at v b b' z r h k = ap (spread (content g) g.room rs at v) (but_none r)
  covered (q ∷ qs) rs at v b b' z r h k =
      let w : Bytes = take (g.room - at) v in
      let long : g.room + g.room * length qs ≤ length v = omega (arith, k, mul-suc g.room (length qs)) in
      let lw : length w ≡ g.room = omega (arith, length-take (g.room - at) v, long) in
      let fits : content g q + g.room ≤ length b = h q (mem_head q qs) in
      let b₁ : Bytes = put (content g q + at) w b in
      let size : length b₁ ≡ length b = piece_length (content g) g.room q at v b fits in
      spread_turn (content g) g.room q (qs ++ rs) at v b'
      ∙ covered qs rs (at - g.room) (drop (g.room - at) v) b₁ (put (content g q + at) w b') (omega arith)
      (covered_page q (content g q + at) w (omega arith) lw (omega arith) r) (λ p m. omega (arith, size, h p (mem_tail p q qs m)))
      (omega (arith, length-drop (g.room - at) v, long))
      ∙ sym (spread_turn (content g) g.room q (qs ++ rs) at v b)

  pub spread_covers : (ps qs rs : List ℕ) (at : ℕ) (v b b' : Bytes) → ButFor g qs b b' → Lie ps b → Lie qs b → at ≤ g.room * length ps
      → g.room * length ps + g.room * length qs ≤ at + length v
      → spread (content g) g.room (ps ++ (qs ++ rs)) at v b' ≡ spread (content g) g.room (ps ++ (qs ++ rs)) at v b
  spread_covers [] qs rs at v b b' r hp hq l k = covered qs rs at v b b' (omega (arith, mul-zero g.room)) r hq (omega (arith, mul-zero g.room))
  spread_covers (p ∷ ps) qs rs at v b b' r hp hq l k =
      let fits : content g p + g.room ≤ length b = hp p (mem_head p ps) in
      let b₁ : Bytes = put (content g p + at) (take (g.room - at) v) b in
      let size : length b₁ ≡ length b = piece_length (content g) g.room p at v b fits in
      let more = mul-suc g.room (length ps) in
      spread_turn (content g) g.room p (ps ++ (qs ++ rs)) at v b'
      ∙ spread_covers ps qs rs (at - g.room) (drop (g.room - at) v) b₁ (put (content g p + at) (take (g.room - at) v) b') (but_piece r p at v fits)
      (λ q m. omega (arith, size, hp q (mem_tail q p ps m))) (λ q m. omega (arith, size, hq q m))
      (omega (arith, more, l)) (omega (arith, more, k, length-drop (g.room - at) v))
      ∙ sym (spread_turn (content g) g.room p (ps ++ (qs ++ rs)) at v b)
