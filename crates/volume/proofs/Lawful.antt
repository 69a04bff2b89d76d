-- What a geometry must be like for an image of N pages, so that its laws hold: page, link, count and bitmap are in the image and apart.
-- `home i` is the page that byte i belongs to: to page p belong its own bytes and those of its link. Only laws speak of it.
use mathlib.Core.Path.{◌≡◌}
use mathlib.Core.Logic.{◌≢◌}
use Prim.Native.Nat.{ℕ, ◌+◌, ◌*◌, ◌/◌, ◌≤◌, ◌<◌}
use lib.ListN.{length}
use Rattle.volume.specs.Bytes.{Bytes}
use Rattle.volume.specs.Geometry.{Geometry, start, content, bitmap_byte}
use Rattle.volume.proofs.Fields.{place, wide, Off}

-- an image of N pages
abbrev pub Sized : Geometry → ℕ → Bytes → Type 0
Sized g N b = length b ≡ g.size * N

-- byte i holds neither the count nor a bit of the bitmap
pub record Kept (g : Geometry) (N i : ℕ) : Type 0 where
  pub count : Off g.count i
  pub map : (q : ℕ) → q < N → i ≢ bitmap_byte g q

pub record Lawful (g : Geometry) (home : ℕ → ℕ) (N : ℕ) : Type 0 where
  pub header : 1 ≤ g.aside
  pub room : g.room ≤ g.size
  -- page, link, count and bitmap belong where they should
  pub of_page : (p i : ℕ) → g.aside ≤ p → start g p ≤ i → i < start g p + g.size → home i ≡ p
  pub of_link : (p i : ℕ) → p < N → place (g.link p) ≤ i → i < place (g.link p) + wide (g.link p) → home i ≡ p
  pub of_count : (i : ℕ) → place g.count ≤ i → i < place g.count + wide g.count → home i ≡ 0
  pub of_map : (p : ℕ) → p < N → home (bitmap_byte g p) ≡ 0
  -- the count stands before the bitmap
  pub order : place g.count + wide g.count ≤ g.map
  -- a link is no content of its page
  pub apart : (p i : ℕ) → g.aside ≤ p → p < N → content g p ≤ i → Off (g.link p) i
  -- all in the image
  pub links_in : (p : ℕ) → p < N → place (g.link p) + wide (g.link p) ≤ g.size * N
  pub map_in : g.map + N / 8 < g.size * N
