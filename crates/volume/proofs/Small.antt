-- Every byte of an image stays below 256: what the effects put there is a byte, a byte with one bit changed, or a number that fits its field.
use mathlib.Core.Path.{◌≡◌, ap, ◌∙◌}
use mathlib.Core.Logic.{inl, inr}
use Prim.Native.Nat.{ℕ, zero, suc, ◌+◌, ◌-◌, ◌*◌, ◌/◌, ◌%◌, ◌^◌, ◌≤◌, ◌<◌}
use native.Mathlib.Omega.{arith}
use native.Mathlib.Decide.{ℕ_discrete, dec_lt}
use mathlib.Core.Bool.{Bool, true, false}
use mathlib.Core.List.{List, [], ◌∷◌, ◌++◌, foldl}
use lib.ListN.{length, set, take, drop, replicate, length-take, get_or-replicate, length-replicate, get_or-append, get_or-eq_default}
use lib.Seq.{get_or-set_same, get_or-set_other, set_out, get_or-append-add, get_or-take, get_or-drop}
use lib.Dec.{ltb}
use Rattle.volume.specs.Bytes.{Bytes, byte_at, put}
use Rattle.std.specs.Prelude.{if◌then◌else◌}
use Rattle.volume.specs.Lists.{last_or}
use Rattle.volume.specs.Chain.{spread}
use Rattle.volume.specs.Field.{Field, byte, pair, load, store}
use Rattle.volume.specs.Geometry.{Geometry, start, content, free_count, bitmap_byte, page_bit, zero_bits, lowest_free, mark, unmark, taken, released, grown, gained, joint_of, written}
use Rattle.volume.proofs.Occ.{occ, mem_head, mem_tail}
use Rattle.volume.proofs.Bits.{bit_set_lt}
use Rattle.volume.proofs.Lawful.{Sized, Lawful}
use Rattle.volume.proofs.Marks.{bit_cases}
use Rattle.volume.proofs.Pages.{released_is}
use Rattle.volume.proofs.Grow.{Room, room_next}
use Rattle.volume.proofs.Longer.{chain_at, joint_at, joint_page, Chained, chain_room}

abbrev pub Small : Bytes → Type 0
Small b = (i : ℕ) → byte_at b i < 256

-- ---- lists

pub small_append : (x y : Bytes) → Small x → Small y → Small (x ++ y)
small_append x y h k i = elim (dec_lt i (length x)) [
  | yes l ↦ omega (arith, get_or-append x y 0 i l, h i)
  | no l ↦
      let e : i ≡ length x + (i - length x) = omega arith in
      omega (arith, ap (byte_at (x ++ y)) e, get_or-append-add x y (i - length x) 0, k (i - length x))
]

pub small_take : (n : ℕ) (b : Bytes) → Small b → Small (take n b)
small_take n b h i = elim (dec_lt i n) [
  | yes l ↦ omega (arith, get_or-take n b i 0 l, h i)
  | no l ↦ omega (arith, get_or-eq_default (take n b) 0 {n = i} (omega (arith, length-take n b)))
]

pub small_drop : (n : ℕ) (b : Bytes) → Small b → Small (drop n b)
small_drop n b h i = omega (arith, get_or-drop n b i 0, h (n + i))

pub small_zeros : (n : ℕ) → Small (replicate n 0)
small_zeros n i = elim (dec_lt i n) [
  | yes l ↦ omega (arith, get_or-replicate {A = ℕ} n i 0 0 l)
  | no l ↦ omega (arith, get_or-eq_default {A = ℕ} (replicate n 0) 0 {n = i} (omega (arith, length-replicate {A = ℕ} n 0)))
]

pub small_put : (i : ℕ) (v b : Bytes) → Small v → Small b → Small (put i v b)
small_put i v b h k = small_append (take i b ++ v) (drop (i + length v) b) (small_append (take i b) v (small_take i b k) h) (small_drop (i + length v) b k)

pub small_set : (b : Bytes) (i n : ℕ) → n < 256 → Small b → Small (set b i n)
small_set b i n h k j = elim (dec_lt i (length b)) [
  | yes l ↦ elim (ℕ_discrete j i) [
    | yes e ↦ omega (arith, ap (byte_at (set b i n)) e, get_or-set_same b i n 0 l)
    | no e ↦ omega (arith, get_or-set_other b i j n 0 e, k j)
  ]
  | no l ↦ omega (arith, ap (λ (d : Bytes). byte_at d j) (set_out b i n (omega arith)), k j)
]

pub small_spread : (first : ℕ → ℕ) (room : ℕ) (ps : List ℕ) (at : ℕ) (v b : Bytes) → Small v → Small b → Small (spread first room ps at v b)
unfolding spread
small_spread first room [] at v b h k = k
small_spread first room (p ∷ ps) at v b h k = go (ltb at room) (λ at v b h k. small_spread first room ps at v b h k)
  where
    go : (c : Bool) → ((at : ℕ) (v b : Bytes) → Small v → Small b → Small (spread first room ps at v b))
        → Small (if c then spread first room ps 0 (drop (room - at) v) (put (first p + at) (take (room - at) v) b) else spread first room ps (at - room) v b)
    go true rest =
        rest 0 (drop (room - at) v) (put (first p + at) (take (room - at) v) b) (small_drop (room - at) v h)
        (small_put (first p + at) (take (room - at) v) b (small_take (room - at) v h) k)
    go false rest = rest (at - room) v b h k

-- ---- numbers in fields

-- a number that a field has bytes for
abbrev pub FitsIn : Field → ℕ → Type 0
FitsIn (byte i) n = n < 256
FitsIn (pair i) n = n < 65536

pub fits_le : (f : Field) (m n : ℕ) → m ≤ n → FitsIn f n → FitsIn f m
fits_le (byte i) m n h k = omega arith
fits_le (pair i) m n h k = omega arith

-- a number below 256 fits every field
pub fits_byte : (f : Field) (n : ℕ) → n < 256 → FitsIn f n
fits_byte (byte i) n h = h
fits_byte (pair i) n h = omega arith

pub load_fits : (f : Field) (b : Bytes) → Small b → FitsIn f (load f b)
load_fits (byte i) b h = h i
load_fits (pair i) b h = omega (arith, h i, h (i + 1))

pub small_store : (f : Field) (n : ℕ) (b : Bytes) → FitsIn f n → Small b → Small (store f n b)
small_store (byte i) n b h k = small_set b i n h k
small_store (pair i) n b h k = small_set (set b i (n % 256)) (i + 1) (n / 256) (omega arith) (small_set b i (n % 256) (omega arith) k)

-- ---- pages

module _ (g : Geometry) where
  pub small_mark : (p : ℕ) (b : Bytes) → Small b → Small (mark g p b)
  unfolding mark page_bit
  small_mark p b h =
      let x : ℕ = byte_at b (bitmap_byte g p) in
      small_set b (bitmap_byte g p) (x + (1 - page_bit g b p) * 2 ^ (p % 8)) (elim (bit_cases g b p) [
        | inl z ↦ omega (arith, ap (λ (c : ℕ). x + (1 - c) * 2 ^ (p % 8)) z, bit_set_lt 8 (p % 8) x (omega arith) (h (bitmap_byte g p)) z)
        | inr o ↦ omega (arith, ap (λ (c : ℕ). x + (1 - c) * 2 ^ (p % 8)) o, h (bitmap_byte g p))
      ]) h

  pub small_unmark : (p : ℕ) (b : Bytes) → Small b → Small (unmark g p b)
  unfolding unmark
  small_unmark p b h = small_set b (bitmap_byte g p) (byte_at b (bitmap_byte g p) - page_bit g b p * 2 ^ (p % 8)) (omega (arith, h (bitmap_byte g p))) h

  pub small_taken : (p : ℕ) (b : Bytes) → Small b → Small (taken g p b)
  unfolding taken
  small_taken p b h =
      let b₁ : Bytes = store g.count (free_count g b - 1) (mark g p b) in
      let f : FitsIn g.count (free_count g b - 1) = fits_le g.count (free_count g b - 1) (free_count g b) (omega arith) (load_fits g.count b h) in
      let h₁ : Small b₁ = small_store g.count (free_count g b - 1) (mark g p b) f (small_mark p b h) in
      small_put (start g p) (replicate g.size 0) (store (g.link p) 0 b₁) (small_zeros g.size)
      (small_store (g.link p) 0 b₁ (fits_byte (g.link p) 0 (omega arith)) h₁)

  pub small_released : (b : Bytes) (p : ℕ) → FitsIn g.count (free_count g b + 1) → Small b → Small (released g b p)
  unfolding released
  small_released b p f h = small_store g.count (free_count g b + 1) (unmark g p b) f (small_unmark p b h)

  -- the number of every page of N fits the link of every page
  abbrev pub LinksFit : ℕ → Type 0
  LinksFit N = (q p : ℕ) → p < N → FitsIn (g.link q) p

  joint_fits : (entry : Field) (ps : List ℕ) (p : ℕ) → FitsIn entry p → ((q : ℕ) → FitsIn (g.link q) p) → FitsIn (joint_of g entry ps) p
  unfolding joint_of
  joint_fits entry [] p f h = f
  joint_fits entry (x ∷ xs) p f h = h (last_or x xs)

module _ {g : Geometry} {home : ℕ → ℕ} {N : ℕ} (law : Lawful g home N) where
  pub small_freed : (ps : List ℕ) (b : Bytes) → Sized g N b → ((p : ℕ) → 1 ≤ occ p ps → p < N) → FitsIn g.count (free_count g b + length ps)
      → Small b → Small (foldl (released g) b ps)
  small_freed [] b s h f k = k
  small_freed (p ∷ ps) b s h f k =
      let o = released_is g home N law p b s (h p (mem_head p ps)) in
      small_freed ps (released g b p) (o.size ∙ s) (λ q m. h q (mem_tail q p ps m))
      (fits_le g.count (free_count g (released g b p) + length ps) (free_count g b + length (p ∷ ps)) (omega (arith, o.count)) f)
      (small_released g b p (fits_le g.count (free_count g b + 1) (free_count g b + length (p ∷ ps)) (omega arith) f) k)

  pub small_grown : (k : ℕ) (joint : Field) (own : ℕ) (b : Bytes) → Room g home N k joint own b → ((p : ℕ) → p < N → FitsIn joint p) → LinksFit g N
      → Small b → Small (grown g N k joint b)
  unfolding grown
  small_grown zero joint own b r f h s = s
  small_grown (suc k) joint own b r f h s =
      let p = lowest_free g N b in
      let t = room_next law k joint own b r in
      small_grown k (g.link p) p (store joint p (taken g p b)) t.4 (h p) h (small_store joint p (taken g p b) (f p t.1) (small_taken g p b s))

  pub small_written : (b : Bytes) (entry : Field) (own j k at : ℕ) (w : Bytes) (from : ℕ) (v : Bytes) → Chained g home N b entry own j → k ≤ zero_bits g b N
      → ((p : ℕ) → p < N → FitsIn entry p) → LinksFit g N → Small w → Small v → Small b → Small (written g N entry (chain_at g b entry j) k at w from v b)
  unfolding written
  small_written b entry own j k at w from v c hk f h sw sv s =
      let joint : Field = joint_at g b entry j in
      small_spread (content g) g.room (chain_at g b entry j ++ gained g N k b) from v (put at w (grown g N k joint b)) sv
      (small_put at w (grown g N k joint b) sw
      (small_grown k joint (joint_page g b entry own j) b (chain_room law b entry own j k c hk)
      (λ p l. joint_fits g entry (chain_at g b entry j) p (f p l) (λ q. h q p l)) h s))
