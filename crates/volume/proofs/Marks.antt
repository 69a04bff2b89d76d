-- Bits of the bitmap set and cleared, the number of zero bits, and the lowest free page:
-- a mark adds one to one page's bit and nothing to any other, so every count of bits is a sum.
use mathlib.Core.Path.{◌≡◌, refl, sym, ap, ap₂, ◌∙◌}
use mathlib.Core.Logic.{◌≢◌, ◌⊎◌, inl, inr}
use Prim.Native.Nat.{ℕ, zero, suc, ◌+◌, ◌-◌, ◌*◌, ◌/◌, ◌%◌, ◌^◌, ◌≤◌, ◌<◌}
use native.Mathlib.Omega.{arith}
use native.Mathlib.Decide.{ℕ_discrete}
use mathlib.Core.Option.{Option, none, some, get_or}
use mathlib.Core.List.{List, [], ◌∷◌}
use lib.ListN.{length, set, length-set}
use lib.Seq.{get_or-set_same, get_or-set_other, set-get_or}
use lib.Dec.{eqb, eqb→eq}
use mir.Facts.{eqb_no}
use Rattle.volume.specs.Bytes.{Bytes, byte_at, bit}
use Rattle.volume.specs.Lists.{up_to, first}
use Rattle.volume.specs.Geometry.{Geometry, bitmap_byte, page_bit, is_free, zero_bits, lowest_free, mark, unmark}
use Rattle.volume.proofs.Occ.{hit, hit_refl, hit_ne, hit_cases, occ, Under, under_cons, sum, sum_cong, sum_add, sum_occ}
use Rattle.volume.proofs.Tests.{occ_count_from, count_from_occ, first_found, first_none, first_cong, first_before}
use Rattle.volume.proofs.Bits.{bit_set, bit_clear}

hit_mod : (p q : ℕ) → q / 8 ≡ p / 8 → hit (q % 8) (p % 8) ≡ hit q p
hit_mod p q e = elim (hit_cases q p) [
  | inl c ↦ ap (λ (x : ℕ). hit (x % 8) (p % 8)) c.0 ∙ hit_refl (p % 8) ∙ sym c.1
  | inr c ↦ hit_ne (q % 8) (p % 8) (λ r. c.0 (omega (arith, e, r))) ∙ sym c.1
]

add_none : (x y : ℕ) → x + (1 - 1) * y ≡ x
add_none x y = omega arith

take_none : (x y : ℕ) → x - 0 * y ≡ x
take_none x y = omega arith

module _ (g : Geometry) where
  pub bit_low : (b : Bytes) (p : ℕ) → page_bit g b p < 2
  unfolding page_bit
  bit_low b p = omega arith

  -- equal bytes of the bitmap have equal bits
  pub bit_byte : (b b' : Bytes) (p : ℕ) → byte_at b' (bitmap_byte g p) ≡ byte_at b (bitmap_byte g p) → page_bit g b' p ≡ page_bit g b p
  unfolding page_bit
  bit_byte b b' p e = ap (bit (p % 8)) e

  -- ---- a mark changes one byte, and in it one bit

  pub mark_length : (p : ℕ) (b : Bytes) → length (mark g p b) ≡ length b
  unfolding mark
  mark_length p b = length-set b (bitmap_byte g p) (byte_at b (bitmap_byte g p) + (1 - page_bit g b p) * 2 ^ (p % 8))

  pub unmark_length : (p : ℕ) (b : Bytes) → length (unmark g p b) ≡ length b
  unfolding unmark
  unmark_length p b = length-set b (bitmap_byte g p) (byte_at b (bitmap_byte g p) - page_bit g b p * 2 ^ (p % 8))

  pub mark_out : (p : ℕ) (b : Bytes) (i : ℕ) → i ≢ bitmap_byte g p → byte_at (mark g p b) i ≡ byte_at b i
  unfolding mark
  mark_out p b i h = get_or-set_other b (bitmap_byte g p) i (byte_at b (bitmap_byte g p) + (1 - page_bit g b p) * 2 ^ (p % 8)) 0 h

  pub unmark_out : (p : ℕ) (b : Bytes) (i : ℕ) → i ≢ bitmap_byte g p → byte_at (unmark g p b) i ≡ byte_at b i
  unfolding unmark
  unmark_out p b i h = get_or-set_other b (bitmap_byte g p) i (byte_at b (bitmap_byte g p) - page_bit g b p * 2 ^ (p % 8)) 0 h

  -- the byte of page p's bit, marked and unmarked
  pub mark_in : (p : ℕ) (b : Bytes) → bitmap_byte g p < length b → page_bit g b p ≡ 0
      → byte_at (mark g p b) (bitmap_byte g p) ≡ byte_at b (bitmap_byte g p) + 2 ^ (p % 8)
  unfolding mark
  mark_in p b h z =
      get_or-set_same b (bitmap_byte g p) (byte_at b (bitmap_byte g p) + (1 - page_bit g b p) * 2 ^ (p % 8)) 0 h
      ∙ ap (λ (c : ℕ). byte_at b (bitmap_byte g p) + (1 - c) * 2 ^ (p % 8)) z ∙ omega arith

  pub unmark_in : (p : ℕ) (b : Bytes) → bitmap_byte g p < length b → page_bit g b p ≡ 1
      → byte_at (unmark g p b) (bitmap_byte g p) ≡ byte_at b (bitmap_byte g p) - 2 ^ (p % 8)
  unfolding unmark
  unmark_in p b h z =
      get_or-set_same b (bitmap_byte g p) (byte_at b (bitmap_byte g p) - page_bit g b p * 2 ^ (p % 8)) 0 h
      ∙ ap (λ (c : ℕ). byte_at b (bitmap_byte g p) - c * 2 ^ (p % 8)) z ∙ omega arith

  -- a page that is marked or free already
  pub mark_again : (p : ℕ) (b : Bytes) → page_bit g b p ≡ 1 → mark g p b ≡ b
  unfolding mark
  mark_again p b h =
      ap (λ (c : ℕ). set b (bitmap_byte g p) (byte_at b (bitmap_byte g p) + (1 - c) * 2 ^ (p % 8))) h
      ∙ ap (set b (bitmap_byte g p)) (add_none (byte_at b (bitmap_byte g p)) (2 ^ (p % 8))) ∙ set-get_or b (bitmap_byte g p) 0

  pub unmark_again : (p : ℕ) (b : Bytes) → page_bit g b p ≡ 0 → unmark g p b ≡ b
  unfolding unmark
  unmark_again p b h =
      ap (λ (c : ℕ). set b (bitmap_byte g p) (byte_at b (bitmap_byte g p) - c * 2 ^ (p % 8))) h
      ∙ ap (set b (bitmap_byte g p)) (take_none (byte_at b (bitmap_byte g p)) (2 ^ (p % 8))) ∙ set-get_or b (bitmap_byte g p) 0

  module _ (b : Bytes) (p : ℕ) (h : bitmap_byte g p < length b) where
    -- a free page marked: one more at p
    pub mark_bits : page_bit g b p ≡ 0 → (q : ℕ) → page_bit g (mark g p b) q ≡ page_bit g b q + hit q p
    unfolding page_bit
    mark_bits z q = elim (ℕ_discrete (q / 8) (p / 8)) [
      | yes e ↦
          let at : bitmap_byte g q ≡ bitmap_byte g p = ap (λ (n : ℕ). g.map + n) e in
          ap (λ (i : ℕ). bit (q % 8) (byte_at (mark g p b) i)) at ∙ ap (bit (q % 8)) (mark_in p b h z) ∙ bit_set (p % 8) (byte_at b (bitmap_byte g p)) (q % 8) z
          ∙ ap₂ (λ (m n : ℕ). m + n) (ap (λ (i : ℕ). bit (q % 8) (byte_at b i)) (sym at)) (hit_mod p q e)
      | no k ↦
          let e = bit_byte b (mark g p b) q (mark_out p b (bitmap_byte g q) (λ r. k (omega (arith, r)))) in
          omega (arith, e, hit_ne q p (λ r. k (ap (λ (n : ℕ). n / 8) r)))
    ]

    -- a marked page unmarked: one less at p
    pub unmark_bits : page_bit g b p ≡ 1 → (q : ℕ) → page_bit g (unmark g p b) q + hit q p ≡ page_bit g b q
    unfolding page_bit
    unmark_bits z q = elim (ℕ_discrete (q / 8) (p / 8)) [
      | yes e ↦
          let at : bitmap_byte g q ≡ bitmap_byte g p = ap (λ (n : ℕ). g.map + n) e in
          ap₂ (λ (m n : ℕ). m + n) (ap (λ (i : ℕ). bit (q % 8) (byte_at (unmark g p b) i)) at ∙ ap (bit (q % 8)) (unmark_in p b h z)) (sym (hit_mod p q e))
          ∙ bit_clear (p % 8) (byte_at b (bitmap_byte g p)) (q % 8) z ∙ ap (λ (i : ℕ). bit (q % 8) (byte_at b i)) (sym at)
      | no k ↦
          let e = bit_byte b (unmark g p b) q (unmark_out p b (bitmap_byte g q) (λ r. k (omega (arith, r)))) in
          omega (arith, e, hit_ne q p (λ r. k (ap (λ (n : ℕ). n / 8) r)))
    ]

  -- a page's bit is 0 or 1
  pub bit_cases : (b : Bytes) (p : ℕ) → (page_bit g b p ≡ 0) ⊎ (page_bit g b p ≡ 1)
  bit_cases b p = elim (ℕ_discrete (page_bit g b p) 0) [ yes z ↦ inl z | no z ↦ inr (omega (arith, bit_low b p, z)) ]

  pub mark_here : (b : Bytes) (p : ℕ) → bitmap_byte g p < length b → page_bit g (mark g p b) p ≡ 1
  mark_here b p h = elim (bit_cases b p) [
    | inl z ↦ omega (arith, mark_bits b p h z p, z, hit_refl p)
    | inr o ↦ ap (λ (d : Bytes). page_bit g d p) (mark_again p b o) ∙ o
  ]

  pub mark_other : (b : Bytes) (p q : ℕ) → bitmap_byte g p < length b → q ≢ p → page_bit g (mark g p b) q ≡ page_bit g b q
  mark_other b p q h ne = elim (bit_cases b p) [
    | inl z ↦ omega (arith, mark_bits b p h z q, hit_ne q p ne)
    | inr o ↦ ap (λ (d : Bytes). page_bit g d q) (mark_again p b o)
  ]

  -- bits that agree agree when both are marked
  pub mark_cong : (b b' : Bytes) (p : ℕ) → bitmap_byte g p < length b → bitmap_byte g p < length b'
      → (q : ℕ) → page_bit g b' q ≡ page_bit g b q → page_bit g (mark g p b') q ≡ page_bit g (mark g p b) q
  mark_cong b b' p h h' q e = elim (ℕ_discrete q p) [
    | yes u ↦ ap (page_bit g (mark g p b')) u ∙ mark_here b' p h' ∙ sym (ap (page_bit g (mark g p b)) u ∙ mark_here b p h)
    | no u ↦ mark_other b' p q h' u ∙ e ∙ sym (mark_other b p q h u)
  ]

  pub unmark_here : (b : Bytes) (p : ℕ) → bitmap_byte g p < length b → page_bit g (unmark g p b) p ≡ 0
  unmark_here b p h = elim (bit_cases b p) [
    | inl z ↦ ap (λ (d : Bytes). page_bit g d p) (unmark_again p b z) ∙ z
    | inr o ↦ omega (arith, unmark_bits b p h o p, o, hit_refl p)
  ]

  pub unmark_other : (b : Bytes) (p q : ℕ) → bitmap_byte g p < length b → q ≢ p → page_bit g (unmark g p b) q ≡ page_bit g b q
  unmark_other b p q h ne = elim (bit_cases b p) [
    | inl z ↦ ap (λ (d : Bytes). page_bit g d q) (unmark_again p b z)
    | inr o ↦ omega (arith, unmark_bits b p h o q, hit_ne q p ne)
  ]

  -- ---- the number of zero bits

  zero_sum : (b : Bytes) (n : ℕ) → zero_bits g b n ≡ sum (λ p. 1 - page_bit g b p) n
  unfolding zero_bits
  zero_sum b zero = refl
  zero_sum b (suc n) = ap (λ (z : ℕ). z + (1 - page_bit g b n)) (zero_sum b n)

  -- 1 for a free page, and 1 for each time that it stands in the list
  abbrev free_in : Bytes → List ℕ → ℕ → ℕ
  free_in b xs p = (1 - page_bit g b p) + occ p xs

  -- pages given back and pages taken
  pub zero_balance : (b b' : Bytes) (n : ℕ) (gone fresh : List ℕ) → Under n gone → Under n fresh
      → ((q : ℕ) → q < n → page_bit g b' q + occ q gone ≡ page_bit g b q + occ q fresh)
      → zero_bits g b' n + length fresh ≡ zero_bits g b n + length gone
  zero_balance b b' n gone fresh ug uf h =
      omega (
        arith,
        sum_cong (free_in b' fresh) (free_in b gone) n (λ q k. omega (arith, h q k, bit_low b q, bit_low b' q)),
        sum_add (λ p. 1 - page_bit g b' p) (λ p. occ p fresh) n,
        sum_add (λ p. 1 - page_bit g b p) (λ p. occ p gone) n,
        sum_occ fresh n uf,
        sum_occ gone n ug,
        zero_sum b n,
        zero_sum b' n,
      )

  pub zeros_cong : (b b' : Bytes) (n : ℕ) → ((q : ℕ) → q < n → page_bit g b' q ≡ page_bit g b q) → zero_bits g b' n ≡ zero_bits g b n
  zeros_cong b b' n h = omega (arith, zero_balance b b' n [] [] (λ p l. refl) (λ p l. refl) (λ q l. omega (arith, h q l)))

  pub mark_count : (b : Bytes) (p n : ℕ) → bitmap_byte g p < length b → p < n → page_bit g b p ≡ 0 → zero_bits g b n ≡ suc (zero_bits g (mark g p b) n)
  mark_count b p n h k z =
      omega (arith, zero_balance b (mark g p b) n [] (p ∷ []) (λ q l. refl) (under_cons n p [] k (λ q l. refl)) (λ q l. omega (arith, mark_bits b p h z q)))

  pub zeros_none : (b : Bytes) (n : ℕ) → ((q : ℕ) → q < n → page_bit g b q ≡ 1) → zero_bits g b n ≡ 0
  unfolding zero_bits
  zeros_none b zero h = refl
  zeros_none b (suc n) h = omega (arith, zeros_none b n (λ q k. h q (omega arith)), h n (omega arith))

  -- ---- the lowest free page

  pub lowest_cong : (N : ℕ) (b b' : Bytes) → ((q : ℕ) → q < N → page_bit g b' q ≡ page_bit g b q) → lowest_free g N b' ≡ lowest_free g N b
  unfolding lowest_free
  lowest_cong N b b' h =
      ap (λ (o : Option ℕ). get_or o N) (first_cong (is_free g b') (is_free g b) (up_to N) (λ q m.
      ap (λ (x : ℕ). eqb x 0) (h q (omega (arith, (count_from_occ 0 N q m).1)))))

  pub lowest_le : (N : ℕ) (b : Bytes) → lowest_free g N b ≤ N
  unfolding lowest_free
  lowest_le N b = go (first (is_free g b) (up_to N)) refl
    where
      go : (o : Option ℕ) → first (is_free g b) (up_to N) ≡ o → get_or o N ≤ N
      go none e = omega arith
      go (some x) e = omega (arith, (count_from_occ 0 N x (first_found (is_free g b) (up_to N) x e).0).1)

  pub lowest_free_lem : (N : ℕ) (b : Bytes) → 0 < zero_bits g b N
      → (lowest_free g N b < N) × (page_bit g b (lowest_free g N b) ≡ 0) × ((q : ℕ) → q < lowest_free g N b → page_bit g b q ≡ 1)
  unfolding lowest_free
  lowest_free_lem N b h = go (first (is_free g b) (up_to N)) refl
    where
      full : (q : ℕ) → page_bit g b q ≢ 0 → page_bit g b q ≡ 1
      full q ne = omega (arith, bit_low b q, ne)

      go : (o : Option ℕ) → first (is_free g b) (up_to N) ≡ o
          → (get_or o N < N) × (page_bit g b (get_or o N) ≡ 0) × ((q : ℕ) → q < get_or o N → page_bit g b q ≡ 1)
      go none e = absurd (omega (
        arith,
        h,
        zeros_none b N (λ q l.
            full q (eqb_no {a = page_bit g b q} {b = 0} (first_none (is_free g b) (up_to N) e q (occ_count_from 0 N q (omega arith) (omega arith))))),
      ))
      go (some x) e =
          let t = first_found (is_free g b) (up_to N) x e in (
            omega (arith, (count_from_occ 0 N x t.0).1),
            eqb→eq (page_bit g b x) 0 t.1,
            λ q l. full q (eqb_no {a = page_bit g b q} {b = 0} (first_before (is_free g b) 0 N x e q (omega arith) l)),
          )
