-- What a repair makes of a pulled cartridge, byte for byte: it sets each bit to what the old image says, and nothing else of the header page has
-- changed but the count, so the header page is the old one.
use mathlib.Core.Path.{◌≡◌, refl, sym, ap, ◌∙◌, subst}
use mathlib.Core.Logic.{◌≢◌}
use Prim.Native.Nat.{ℕ, zero, suc, ◌+◌, ◌-◌, ◌*◌, ◌/◌, ◌%◌, ◌^◌, ◌≤◌, ◌<◌}
use native.Mathlib.Nat.{zero-add, pow-suc, div-div-eq-div-mul}
use native.Mathlib.Omega.{arith}
use native.Mathlib.Decide.{dec_lt, ℕ_discrete}
use mathlib.Core.Bool.{Bool, true, false}
use mathlib.Core.List.{List, ◌∷◌}
use lib.ListN.{length}
use lib.Seq.{ext_get_or}
use lib.Dec.{T}
use Rattle.volume.specs.Bytes.{Bytes, byte_at, bit, part, put}
use Rattle.std.specs.Prelude.{if◌then◌else◌}
use Rattle.volume.specs.Lists.{member}
use Rattle.volume.specs.Geometry as On
use Rattle.volume.proofs.Occ.{occ, not_mem}
use Rattle.volume.proofs.Fields.{store_out}
use Rattle.volume.proofs.Marks.{zeros_cong}
use Rattle.volume.proofs.Puts.{put_length, put_out, put_in, byte_part, part_length}
use Rattle.model.specs.Layout.{version1, page_count, free_count, page_bit, zero_bits}
use Rattle.model.specs.Sound.{owned_pages}
use Rattle.laws.proofs.Facts.{Facts}
use Rattle.laws.proofs.Slots.{size}
use Rattle.repair.specs.Remark.{remarked, recounted}
use Rattle.repair.specs.Repair.{is_in_use, repaired}
use Rattle.repair.proofs.Bits.{Says, remarked_length}
use Rattle.repair.proofs.Mended.{Mended, mended_is, sound_repaired}
use Rattle.store_laws.proofs.Claims.{mark_top, unmark_top}
use Rattle.store_laws.proofs.Stores.{Free, Pulled}
use Rattle.store_laws.proofs.Pulled.{owns, pages, pulled_fits}

-- 8 bits and what is above them make a byte
halves : (u v : ℕ) → u / 2 ≡ v / 2 → u % 2 ≡ v % 2 → u ≡ v
halves u v d m = omega arith

div_two : (x r : ℕ) → x / 2 ^ r / 2 ≡ x / 2 ^ suc r
div_two x r = div-div-eq-div-mul x (2 ^ r) 2 ∙ ap (λ (n : ℕ). x / n) (sym (pow-suc 2 r))

byte_bits : (x y : ℕ) → ((r : ℕ) → r < 8 → bit r x ≡ bit r y) → x / 256 ≡ y / 256 → x ≡ y
byte_bits x y h top = go 8 (omega arith) top
  where
    -- what is left of both after r bits is the same, so all is
    go : (r : ℕ) → r ≤ 8 → x / 2 ^ r ≡ y / 2 ^ r → x ≡ y
    go zero l e = omega (arith, e)
    go (suc r) l e = go r (omega arith) (halves (x / 2 ^ r) (y / 2 ^ r) (div_two x r ∙ e ∙ sym (div_two y r)) (h r (omega arith)))

-- a test says one thing of a bit
says_one : (c : Bool) (x y : ℕ) → Says version1 c x → Says version1 c y → x ≡ y
says_one true x y s t = s.yes tt ∙ sym (t.yes tt)
says_one false x y s t = s.no tt ∙ sym (t.no tt)

remarked_top : (f : ℕ → Bool) (n : ℕ) (b : Bytes) → n ≤ 256 → 64 ≤ length b → (i : ℕ) → byte_at (remarked version1 f n b) i / 256 ≡ byte_at b i / 256
unfolding remarked
remarked_top f zero b few long i = refl
remarked_top f (suc n) b few long i = go (f n) ∙ remarked_top f n b (omega arith) long i
  where
    before : Bytes
    before = remarked version1 f n b

    fits : 4 + n / 8 < length (remarked version1 f n b)
    fits = omega (arith, remarked_length version1 f n b, long, few)

    go : (c : Bool) → byte_at (if c then On.mark version1 n (remarked version1 f n b) else On.unmark version1 n (remarked version1 f n b)) i / 256 ≡ byte_at (remarked version1 f n b) i / 256
    go true = mark_top n (remarked version1 f n b) fits i
    go false = unmark_top n (remarked version1 f n b) fits i

module _ (b c : Bytes) (f : Facts b) (qs : List ℕ) (free : Free b qs) (p : Pulled b c qs) where
  N_is : page_count c ≡ page_count b
  N_is = pages b c f qs free p

  mended : Mended c (repaired c)
  mended = mended_is c (pulled_fits b c f qs free p)

  old : Mended b (repaired b)
  old = mended_is b f.fits

  -- the bits are those of the old image
  bits : (q : ℕ) → q < page_count b → page_bit (repaired c) q ≡ page_bit b q
  bits q l =
      let same : is_in_use c q ≡ is_in_use b q = ap (λ (xs : List ℕ). member q (0 ∷ xs)) (owns b c f qs free p) in
      says_one (is_in_use b q) (page_bit (repaired c) q) (page_bit b q)
      (subst (λ (x : Bool). Says version1 x (page_bit (repaired c) q)) same (mended.bits q (omega (arith, l, N_is))))
      (subst (λ (x : Bytes). Says version1 (is_in_use b q) (page_bit x q)) (sound_repaired b f) (old.bits q l))

  count : byte_at (repaired c) 3 ≡ byte_at b 3
  count =
      mended.counted ∙ ap (zero_bits (repaired c)) N_is
      ∙ zeros_cong version1 b (repaired c) (page_count b) bits ∙ sym f.counted

  long : 64 ≤ length c
  long = omega (arith, p.long, (size f).low, (size f).whole)

  top : (i : ℕ) → i < 64 → i ≢ 3 → byte_at (repaired c) i / 256 ≡ byte_at b i / 256
  unfolding repaired recounted
  top i l ne =
      let marked : Bytes = remarked version1 (is_in_use c) (page_count c) c in
      ap (λ (x : ℕ). x / 256) (store_out version1.count (zero_bits marked (page_count c)) marked i (λ u. omega (arith, ne)))
      ∙ remarked_top (is_in_use c) (page_count c) c (omega (arith, N_is, (size f).high)) long i ∙ p.tops i l ne

  -- a bitmap byte in use
  in_map : (i : ℕ) → 4 ≤ i → i < 4 + page_count b / 8 → byte_at (repaired c) i ≡ byte_at b i
  unfolding On.page_bit
  in_map i l u = byte_bits (byte_at (repaired c) i) (byte_at b i) each (top i (omega (arith, u, (size f).high)) (omega arith))
    where
      each : (r : ℕ) → r < 8 → bit r (byte_at (repaired c) i) ≡ bit r (byte_at b i)
      each r m =
          let q : ℕ = 8 * (i - 4) + r in
          let here : 4 + (8 * (i - 4) + r) / 8 ≡ i = omega arith in
          let which : (8 * (i - 4) + r) % 8 ≡ r = omega arith in
          let same = bits (8 * (i - 4) + r) (omega (arith, u, (size f).eights)) in
          subst (λ (j : ℕ). bit r (byte_at (repaired c) j) ≡ bit r (byte_at b j)) here
          (subst (λ (s : ℕ). bit s (byte_at (repaired c) (4 + (8 * (i - 4) + r) / 8)) ≡ bit s (byte_at b (4 + (8 * (i - 4) + r) / 8))) which same)

  header_out : occ 0 qs ≡ 0
  header_out = not_mem 0 qs (λ m. omega (arith, (free 0 m).0))

  -- any other byte of the header page
  beside : (i : ℕ) → i < 256 → i ≢ 3 → (4 ≤ i → 4 + page_count b / 8 ≤ i) → byte_at (repaired c) i ≡ byte_at b i
  beside i l ne o =
      mended.rest i (record { count = ne; map = λ u. omega (arith, o u, N_is) })
      ∙ elim (dec_lt i 64) [
        | yes u ↦ p.head i (record { field = u; count = ne; map = o })
        | no u ↦ (let z : i / 256 ≡ 0 = omega arith in p.rest i (omega arith) (ap (λ (x : ℕ). occ x qs) z ∙ header_out))
      ]

  header : (i : ℕ) → i < 256 → byte_at (repaired c) i ≡ byte_at b i
  header i l = elim (ℕ_discrete i 3) [
    | yes e ↦ ap (byte_at (repaired c)) e ∙ count ∙ ap (byte_at b) (sym e)
    | no ne ↦ elim (dec_lt i 4) [
      | yes u ↦ beside i l ne (λ x. omega arith)
      | no u ↦ elim (dec_lt i (4 + page_count b / 8)) [ yes x ↦ in_map i (omega arith) x | no x ↦ beside i l ne (λ y. omega arith) ]
    ]
  ]

  -- the pulled image with the old header page
  pub restored : repaired c ≡ put 0 (part 0 256 b) c
  restored =
      ext_get_or 0 (repaired c) (put 0 (part 0 256 b) c) (mended.long ∙ sym (put_length 0 (part 0 256 b) c fits)) (λ i l. elim (dec_lt i 256) [
        | yes u ↦
            header i u ∙ sym (ap (byte_at (put 0 (part 0 256 b) c)) (sym (zero-add i)) ∙ put_in 0 (part 0 256 b) c fits i (omega (arith, u, old_long))
            ∙ byte_part 0 256 i b u ∙ ap (byte_at b) (zero-add i))
        | no u ↦
            mended.rest i (record { count = omega arith; map = λ x. omega (arith, N_is, (size f).high) })
            ∙ sym (put_out 0 (part 0 256 b) c fits i (λ x. omega (arith, old_long)))
      ])
    where
      old_long : length (part 0 256 b) ≡ 256
      old_long = part_length 0 256 b (omega (arith, (size f).low, (size f).whole))

      fits : 0 + length (part 0 256 b) ≤ length c
      fits = omega (arith, old_long, p.long, (size f).low, (size f).whole)
