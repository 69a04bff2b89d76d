-- Images of more than 65,536 bytes: links of two bytes in pages 1 and 2, and page numbers above 255. Each is looked at once, since its bytes are many.
use mathlib.Core.Path.{◌≡◌, refl, ap₂}
use Prim.Native.Nat.{ℕ, zero, suc, ◌+◌}
use mathlib.Core.Bool.{false}
use mathlib.Core.List.{List, [], ◌∷◌, ◌++◌, map}
use lib.ListN.{length}
use Rattle.volume.specs.Bytes.{Bytes}
use Rattle.volume.specs.Lists.{keep, up_to}
use Rattle.volume.specs.Geometry as On
use lib.Dec.{eqb}
use Rattle.model.specs.Sound.{pages_at}
use Rattle.model.specs.Tree.{Row, end, free, file, dir}
use Rattle.model.specs.Image.{row_at}
use Rattle.model2.specs.Layout.{code_in, header_lines}
use Rattle.model2.specs.Version2.{view_by, place_by}
use Rattle.model2.proofs.Run2.{computing2, told_by}
use Rattle.model2.proofs.Desk2.{day1, day2, called, stretch, desk16, desk272}

abbrev vacants : ℕ → Row → Row
vacants zero r = r
vacants (suc n) r = free (vacants n r)

-- what there is to see of an image with a page code and a length: N, the tree, the pages of some entries, the marked pages, the count, the
-- root's pages, and the places of some of its entries
abbrev Seen : Type 0
Seen = ℕ × Row × List (List ℕ) × List ℕ × ℕ × List ℕ × List (ℕ × ℕ)

abbrev looked : (positions entries : List ℕ) (code length : ℕ) → Bytes → Seen
looked ats is code n b =
    let v = view_by code n b in (
      v.pages,
      row_at 4 v 0,
      map (pages_at v) ats,
      keep (λ p. eqb (On.page_bit v.geometry b p) 1) (up_to v.pages),
      On.free_count v.geometry b,
      v.directory_pages 0,
      map (place_by code n b 0) is,
    )

-- the page code and the length that the bytes have, which `view2` goes by
pub measured : (code_in desk16 ≡ 1) × (length desk16 ≡ 69632) × (code_in desk272 ≡ 1) × (length desk272 ≡ 139264)
unfolding computing2 desk16 desk272
measured = (refl, refl, refl, refl)

pub headers : (told_by (header_lines desk16) ≡ 0) × (told_by (header_lines desk272) ≡ 0)
unfolding computing2 desk16 desk272
headers = (refl, refl)

pub two_bytes : looked (66560 ∷ []) (14 ∷ 15 ∷ []) 1 69632 desk16 ≡ (
  136,
  vacants 15 (file false (called "f") day2 (stretch 0 512 ++ (0x42 ∷ 0x43 ∷ 0x44 ∷ [])) (vacants 15 end)),
  (135 ∷ 3 ∷ []) ∷ [],
  0 ∷ 1 ∷ 2 ∷ 3 ∷ 130 ∷ 135 ∷ [],
  130,
  0 ∷ 130 ∷ [],
  (0, 14) ∷ (130, 0) ∷ [],
)
unfolding computing2 desk16
two_bytes = refl

pub above_255 : looked (480 ∷ 132096 ∷ 3552 ∷ 2048 ∷ []) (0 ∷ 13 ∷ 14 ∷ 29 ∷ []) 1 139264 desk272 ≡ (
  272,
  vacants 13 (dir (called "D") day1
      (vacants 15 (file false (called "e") day1 [] (dir (called "E") day2 (vacants 16 end) (vacants 15 end))))
      (file false (called "f") day2 (stretch 0 1300) (vacants 15 end))),
  (6 ∷ 4 ∷ []) ∷ (262 ∷ 3 ∷ 263 ∷ []) ∷ (261 ∷ []) ∷ (5 ∷ []) ∷ [],
  0 ∷ 1 ∷ 2 ∷ 3 ∷ 4 ∷ 5 ∷ 6 ∷ 258 ∷ 261 ∷ 262 ∷ 263 ∷ [],
  261,
  0 ∷ 258 ∷ [],
  (0, 0) ∷ (0, 13) ∷ (258, 0) ∷ (258, 15) ∷ [],
)
unfolding computing2 desk272
above_255 = refl

-- so `view2` of their bytes has all of it
pub both_seen : (looked (66560 ∷ []) (14 ∷ 15 ∷ []) (code_in desk16) (length desk16) desk16 ≡ looked (66560 ∷ []) (14 ∷ 15 ∷ []) 1 69632 desk16)
    × (looked (480 ∷ 132096 ∷ 3552 ∷ 2048 ∷ []) (0 ∷ 13 ∷ 14 ∷ 29 ∷ []) (code_in desk272) (length desk272) desk272 ≡ looked (480 ∷ 132096 ∷ 3552 ∷ 2048 ∷ []) (0 ∷ 13 ∷ 14 ∷ 29 ∷ []) 1 139264 desk272)
both_seen = (
  ap₂ (λ (code n : ℕ). looked (66560 ∷ []) (14 ∷ 15 ∷ []) code n desk16) measured.0 measured.1,
  ap₂ (λ (code n : ℕ). looked (480 ∷ 132096 ∷ 3552 ∷ 2048 ∷ []) (0 ∷ 13 ∷ 14 ∷ 29 ∷ []) code n desk272) measured.2 measured.3,
)
