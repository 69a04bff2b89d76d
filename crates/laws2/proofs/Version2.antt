-- Images of version 2 with one length and one page code are a shelf, whatever both are, if only they are allowed. So the laws of make, write, remove and lock
-- over a view are version 2's, and so is the growth of a directory. The view of an image is one of its own shelf: `view2 b` is `view_by (code_in b) (length b) b`.
use mathlib.Core.Path.{◌≡◌, refl, ap, ap₂, ◌∙◌}
use Prim.Native.Nat.{ℕ, zero, suc, ◌+◌, ◌-◌, ◌*◌, ◌/◌, ◌≤◌, ◌<◌}
use native.Mathlib.Omega.{arith}
use mathlib.Core.Bool.{Bool, true, false}
use mathlib.Core.List.{List, [], ◌∷◌, flat_map, append-nil}
use lib.ListN.{length, length-map}
use lib.Dec.{T, eqb-suc-zero}
use Rattle.volume.specs.Bytes.{Bytes}
use Rattle.std.specs.Prelude.{if◌then◌else◌}
use Rattle.volume.specs.Lists.{count_from, up_to}
use Rattle.volume.specs.Chain.{beyond, linked}
use Rattle.volume.specs.Geometry as On
use Rattle.volume.proofs.Lawful.{Sized, Kept}
use Rattle.volume.proofs.Pages.{page_in}
use Rattle.volume.proofs.Follow.{PageLies, Lies}
use Rattle.volume.proofs.Occ.{hit_refl}
use Rattle.volume.proofs.Grow.{Grown, gained_is}
use Rattle.model.specs.Sound.{good_directory}
use Rattle.model.specs.Tree.{extend}
use Rattle.model.specs.Path.{Name}
use Rattle.model.specs.Image.{row_at}
use Rattle.model.specs.Walk.{change_at}
use Rattle.view_laws.proofs.Facts.{Facts}
use Rattle.view_laws.proofs.Focus.{Leads}
use Rattle.view_laws.proofs.Shelf.{Shelf, seen, Shelved}
use Rattle.view_laws.proofs.Chained.{chained, Slotted, chained_shelved}
use Rattle.view_laws.proofs.Lengthened.{lengthened_bytes, lengthened_leads, lengthened_sound}
use Rattle.view_laws.proofs.Ends.{Ending, chains_end}
use Rattle.model2.specs.Layout.{page_size, page_count, root_start, is_wide, set_aside, geometry2, code_in}
use Rattle.model2.specs.Entry.{entry_at}
use Rattle.model2.specs.Version2.{entry_count, entries_start, entries_on, numbers2, next_by, place_by, view_by, view2}
use Rattle.laws2.proofs.Bounds.{Allowed, Bounds, bounds}
use Rattle.laws2.proofs.Lawful2.{Tabled, home2, home_header, lawful2}
use Rattle.laws2.proofs.Slots2.{slotted2}

-- ---- the shelf

module _ (code n : ℕ) where
  abbrev home : ℕ → ℕ
  home = home2 (is_wide n) (set_aside n) (page_size code)

  abbrev on : ℕ → List ℕ
  on = entries_on (page_size code) (page_count code n)

  -- directories are chains
  abbrev pub shelf2 : Shelf
  shelf2 = chained (geometry2 code n) home (page_count code n) (numbers2 code n) on entry_at (place_by code n)

  -- what stands on it is what the definitions read
  pub seen2 : (b : Bytes) → seen shelf2 b ≡ view_by code n b
  seen2 b = refl

-- an image that keeps its length and its page code stays on its shelf
pub view_stays : (b b' : Bytes) → length b' ≡ length b → code_in b' ≡ code_in b → view2 b' ≡ view_by (code_in b) (length b) b'
view_stays b b' e c = ap₂ (λ (code n : ℕ). view_by code n b') c e

-- the pages that an allowed image has fit its table
by_width : {code n : ℕ} (two : Bool) → Bounds code n → Tabled two (if two then 3 else 2) (page_size code) (page_count code n)
by_width true m = record { large = m.large; few = m.few; one = omega arith; some = omega (arith, m.some); table = omega (arith, m.table) }
by_width false m = record { large = m.large; few = m.few; one = omega arith; some = omega (arith, m.some); table = omega (arith, m.table) }

two_aside : (two : Bool) → 2 ≤ (if two then 3 else 2)
two_aside true = omega arith
two_aside false = omega arith

length_count_from : (s n : ℕ) → length (count_from s n) ≡ n
unfolding count_from
length_count_from s zero = refl
length_count_from s (suc n) = ap suc (length_count_from (suc s) n)

-- the entries on a page; one other than page 0 has an entry for every 32 bytes
pub entries_count : (size N p : ℕ) → length (entries_on size N p) ≡ entry_count size N p
unfolding entries_on
entries_count size N p = length-map (up_to (entry_count size N p)) (λ i. entries_start size N p + 32 * i) ∙ length_count_from 0 (entry_count size N p)

pub page_entries_lem : (size N p : ℕ) → 1 ≤ p → length (entries_on size N p) ≡ size / 32
page_entries_lem size N zero h = absurd (omega arith)
page_entries_lem size N (suc p) h = entries_count size N (suc p) ∙ ap (λ (c : Bool). if c then (size - root_start N) / 32 else size / 32) (eqb-suc-zero p)

module _ {code n : ℕ} (a : Allowed code n) where
  pub tabled : Tabled (is_wide n) (set_aside n) (page_size code) (page_count code n)
  tabled = by_width (is_wide n) (bounds a)

  pub slots : Slotted (geometry2 code n) (home code n) (page_count code n) (numbers2 code n) (on code n) entry_at (place_by code n)
  slots = slotted2 tabled (bounds a).eights (numbers2 code n) (place_by code n)

  -- what a version owes the laws of the calls
  pub shelved2 : Shelved (shelf2 code n)
  shelved2 = chained_shelved _ _ _ _ _ _ _ slots

  pub sized2 : (b : Bytes) → length b ≡ n → Sized (geometry2 code n) (page_count code n) b
  sized2 b e = e ∙ (bounds a).whole

  -- a page lies in the image, and so does its link
  pub lies2 : (b : Bytes) → length b ≡ n → (q : ℕ) → q < page_count code n → PageLies (geometry2 code n) q b × Lies ((geometry2 code n).link q) b
  lies2 b e q h = (
    omega (arith, sized2 b e, page_in (geometry2 code n) (home code n) (page_count code n) (lawful2 tabled) q h),
    omega (arith, sized2 b e, (lawful2 tabled).links_in q h),
  )

  -- a directory whose pages differ and are in range ends
  pub directories_end : (b : Bytes) → Ending (view_by code n b)
  directories_end b =
      chains_end (geometry2 code n) (home code n) (page_count code n) (numbers2 code n) (on code n) entry_at (place_by code n) (two_aside (is_wide n)) tabled.some b

  -- the version, the bitmap's bytes and the page code are neither count nor bitmap, so taking and giving back pages leaves them
  pub head_kept : (i : ℕ) → i < 7 → (4 ≤ i → 6 ≤ i) → Kept (geometry2 code n) (page_count code n) i
  head_kept i l h = record { count = λ k. omega (arith, h k); map = λ q k e. omega arith }

  pub code_kept : Kept (geometry2 code n) (page_count code n) 6
  code_kept = head_kept 6 (omega arith) (λ l. omega arith)

  -- and they belong to page 0
  pub head_home : (i : ℕ) → i < 7 → (shelf2 code n).home i ≡ 0
  head_home i l = home_header tabled i (omega (arith, tabled.large))

  -- ---- growth: a directory that has suc j pages gets one more, and its row the entries of that page, all free

  module _ (b : Bytes) (len : length b ≡ n) (names : List Name) (e t j : ℕ) (is : linked (next_by code n b) (page_count code n) t ≡ suc j)
      (enough : 1 ≤ On.zero_bits (geometry2 code n) b (page_count code n)) where
    abbrev pub longer : Bytes
    longer = On.grown (geometry2 code n) (page_count code n) 1 ((geometry2 code n).link (beyond (next_by code n b) j t)) b

    new_page : ((q : ℕ) → q < set_aside n → On.page_bit (geometry2 code n) b q ≡ 1) → 1 ≤ On.lowest_free (geometry2 code n) (page_count code n) b
    unfolding On.gained
    new_page h =
        let p = On.lowest_free (geometry2 code n) (page_count code n) b in
        let g = gained_is (lawful2 tabled) 1 b (sized2 b len) h enough in
        omega (arith, (g.new p (omega (arith, hit_refl p))).0, tabled.one)

    -- every byte stays but bits, count, the link of its last page and the new page, and the names lead to it as before
    module _ (f : Facts (view_by code n b)) (leads : Leads (view_by code n b) (page_count code n) 0 names (suc e) t)
        (ends : T ((view_by code n b).directory_ends t)) where
      pub lengthened_bytes2 : Grown (geometry2 code n) (shelf2 code n).home (page_count code n) (On.gained (geometry2 code n) (page_count code n) 1 b) 1
          ((geometry2 code n).link (beyond (next_by code n b) j t)) b longer
      lengthened_bytes2 =
          lengthened_bytes (geometry2 code n) (home code n) (page_count code n) (numbers2 code n) (on code n) entry_at (place_by code n) slots b (sized2 b len)
          f names e t j leads is ends enough

      pub lengthened_leads2 : Leads (view_by code n longer) (page_count code n) 0 names (suc e) t
      lengthened_leads2 =
          lengthened_leads (geometry2 code n) (home code n) (page_count code n) (numbers2 code n) (on code n) entry_at (place_by code n) slots b (sized2 b len)
          f names e t j leads is ends enough

    pub lengthened2 : Facts (view_by code n b) → Leads (view_by code n b) (page_count code n) 0 names (suc e) t → T ((view_by code n b).directory_ends t)
        → T (good_directory (suc e) (view_by code n b) t)
        → Facts (view_by code n longer)
        × (row_at (page_count code n) (view_by code n longer) 0 ≡ change_at names (extend (page_size code / 32)) (row_at (page_count code n) (view_by code n b) 0))
    unfolding flat_map
    lengthened2 f leads ends good =
        let p : ℕ = On.lowest_free (geometry2 code n) (page_count code n) b in
        let m : length (flat_map (on code n) (p ∷ [])) ≡ page_size code / 32 =
        ap length (append-nil (on code n p)) ∙ page_entries_lem (page_size code) (page_count code n) p (new_page f.aside) in
        let r = lengthened_sound (geometry2 code n) (home code n) (page_count code n) (numbers2 code n) (on code n) entry_at (place_by code n) slots b (sized2 b len)
        f names e t j leads is ends enough good in
        (r.0, r.1 ∙ ap (λ (k : ℕ). change_at names (extend k) (row_at (page_count code n) (view_by code n b) 0)) m)
