-- What `mark` and `unmark` store: a bit that is 0 set in a byte leaves a byte, and a bit that is 1 is there to be cleared.
use mathlib.Core.Path.{◌≡◌, sym, ap, ◌∙◌}
use mathlib.Core.Logic.{◌≢◌}
use Prim.Native.Nat.{ℕ, ◌+◌, ◌-◌, ◌*◌, ◌%◌, ◌^◌, ◌≤◌, ◌<◌}
use native.Mathlib.Omega.{arith}
use lib.ListN.{set}
use Rattle.volume.specs.Bytes.{Bytes, byte_at}
use Rattle.volume.specs.Geometry.{Geometry, bitmap_byte, page_bit, mark, unmark}
use Rattle.volume.proofs.Bits.{bit_set_lt, bit_le}
use Rattle.volume.proofs.Marks.{bit_low, mark_again, unmark_again}

-- x is the byte of page p's bit, w the weight of the bit, and r the bit
module _ (g : Geometry) (b : Bytes) (p x w r : ℕ) (hx : x ≡ byte_at b (bitmap_byte g p)) (hw : w ≡ 2 ^ (p % 8)) (hr : r ≡ page_bit g b p) where
  pub mark_fits : x < 256 → r ≡ 0 → x + w < 256
  unfolding page_bit
  mark_fits h z = rw (hw, hx) (bit_set_lt 8 (p % 8) (byte_at b (bitmap_byte g p)) (omega arith) (omega arith) (sym hr ∙ z))

  pub unmark_fits : r ≡ 1 → w ≤ x
  unfolding page_bit
  unmark_fits o = rw (hw, hx) (bit_le (p % 8) (byte_at b (bitmap_byte g p)) (sym hr ∙ o))

  pub mark_stored : r ≡ 0 → set b (bitmap_byte g p) (x + w) ≡ mark g p b
  unfolding mark
  mark_stored z =
      let e : x + w ≡ byte_at b (bitmap_byte g p) + (1 - page_bit g b p) * 2 ^ (p % 8) = rw (sym hr ∙ z, hw, hx) (omega arith) in
      ap (set b (bitmap_byte g p)) e

  pub unmark_stored : r ≡ 1 → set b (bitmap_byte g p) (x - w) ≡ unmark g p b
  unfolding unmark
  unmark_stored o =
      let e : x - w ≡ byte_at b (bitmap_byte g p) - page_bit g b p * 2 ^ (p % 8) = rw (sym hr ∙ o, hw, hx) (omega arith) in
      ap (set b (bitmap_byte g p)) e

-- a bit that is so already
module _ (g : Geometry) (b : Bytes) (p r : ℕ) (hr : r ≡ page_bit g b p) where
  pub mark_left : r ≢ 0 → b ≡ mark g p b
  mark_left ne = sym (mark_again g p b (omega (arith, bit_low g b p)))

  pub unmark_left : r ≢ 1 → b ≡ unmark g p b
  unmark_left ne = sym (unmark_again g p b (omega (arith, bit_low g b p)))
