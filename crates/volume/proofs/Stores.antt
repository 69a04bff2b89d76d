-- A page taken and a page given back, store by store as the code does them, with the count of the image before.
use mathlib.Core.Path.{◌≡◌}
use Prim.Native.Nat.{ℕ, ◌+◌, ◌-◌, ◌<◌}
use lib.ListN.{length}
use native.Mathlib.Omega.{arith}
use Rattle.volume.specs.Bytes.{Bytes, put, zeros}
use Rattle.volume.specs.Field.{Field, byte, pair, store}
use Rattle.volume.specs.Geometry as On
use Rattle.volume.specs.Geometry.{Geometry}
use Rattle.volume.proofs.Small.{FitsIn}
use Rattle.volume.proofs.Follow.{Lies, PageLies}

-- page p, its link, its bit and the count lie in the image
pub record Present (g : Geometry) (p : ℕ) (b : Bytes) : Type 0 where
  pub page : PageLies g p b
  pub link : Lies (g.link p) b
  pub count : Lies g.count b
  pub map : On.bitmap_byte g p < length b

-- and so they do in an image as long
pub present_as_long : {g : Geometry} {p : ℕ} {b b' : Bytes} → length b' ≡ length b → Present g p b → Present g p b'
present_as_long e h =
    record { page = omega (arith, e, h.page); link = omega (arith, e, h.link); count = omega (arith, e, h.count); map = omega (arith, e, h.map) }

-- page p taken as `taken` says, but its bytes stay: for one whose content is written next
unfoldable pub claimed : (g : Geometry) (p : ℕ) → Bytes → Bytes
claimed g p b = store (g.link p) 0 (store g.count (On.free_count g b - 1) (On.mark g p b))

pub taken_claimed : (g : Geometry) (p : ℕ) (b r r' : Bytes) → r ≡ claimed g p b → r' ≡ put (On.start g p) (zeros g.size) r → r' ≡ On.taken g p b
unfolding claimed On.taken zeros
taken_claimed g p b r r' e e' = rw (e', e)

module _ (g : Geometry) (p free : ℕ) (b b₁ b₂ : Bytes) (e : free ≡ On.free_count g b) where
  pub claimed_stored : (b₃ : Bytes) → b₁ ≡ On.mark g p b → b₂ ≡ store g.count (free - 1) b₁ → b₃ ≡ store (g.link p) 0 b₂ → b₃ ≡ claimed g p b
  unfolding claimed
  claimed_stored b₃ e₁ e₂ e₃ = rw (e₃, e₂, e₁, e)

  pub released_stored : b₁ ≡ On.unmark g p b → b₂ ≡ store g.count (free + 1) b₁ → b₂ ≡ On.released g b p
  unfolding On.released
  released_stored e₁ e₂ = rw (e₂, e₁, e)

-- what fits a field is small
pub fits_small : (f : Field) (n : ℕ) → FitsIn f n → n < 65536
fits_small (byte at) n h = omega arith
fits_small (pair at) n h = h
