-- The two widths of links: the definitions' geometry at a length, as each return of `shape_of` writes it down.
use mathlib.Core.Bool.{true, false}
use mathlib.Core.Path.{◌≡◌, refl}
use Prim.Native.Nat.{ℕ, ◌≤◌, ◌<◌}
use borrow.Author.Tests.{lt-ltb, le-ltb}
use Rattle.model2.specs.Layout as Layout

-- A geometry of one-byte links is the definitions' up to 65,536 bytes.
pub narrow_is : (code : ℕ) {size length : ℕ} → size ≡ Layout.page_size code → length ≤ 65536 → Layout.geometry_by false 2 size ≡ Layout.geometry2 code length
narrow_is code e h = rw (e, le-ltb _ _ h) refl

-- A geometry of two-byte links is the definitions' above that.
pub wide_is : (code : ℕ) {size length : ℕ} → size ≡ Layout.page_size code → 65536 < length → Layout.geometry_by true 3 size ≡ Layout.geometry2 code length
wide_is code e h = rw (e, lt-ltb _ _ h) refl
