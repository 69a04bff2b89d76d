-- Version 2's geometries are lawful, all by one proof: pages of any size from 256 bytes, links of one byte or two in a table that begins on page 1, and no
-- more pages than the table has links. `home i` is 0 on page 0, in the table the page whose link byte i is of, and behind it the page that it lies on.
use mathlib.Core.Path.{◌≡◌, refl, ap, ◌∙◌}
use Prim.Native.Nat.{ℕ, ◌+◌, ◌-◌, ◌*◌, ◌/◌, ◌≤◌, ◌<◌}
use native.Mathlib.Nat.{mul-suc, mul-le-mul_left, mul_comm, div-eq_of_lt-le}
use native.Mathlib.Numerals.{add-one}
use native.Mathlib.Omega.{arith}
use mathlib.Core.Bool.{Bool, true, false, not}
use lib.Dec.{T, ltb, lt→ltb, ltb→lt, not_T}
use Rattle.std.specs.Prelude.{if◌then◌else◌}
use Rattle.volume.proofs.Tests.{if_yes, if_no}
use Rattle.volume.proofs.Fields.{place, wide}
use Rattle.volume.proofs.Lawful.{Lawful, Kept}
use Rattle.model2.specs.Layout.{link_field, geometry_by}

-- ---- the page that a byte belongs to

module _ (size till : ℕ) (link_of : ℕ → ℕ) where
  unfoldable pub home_by : ℕ → ℕ
  home_by i = if ltb i size then 0 else if ltb i till then link_of i else i / size

  not_below : (i n : ℕ) → n ≤ i → T (not (ltb i n))
  not_below i n h = not_T (ltb i n) (λ t. omega (arith, ltb→lt i n t))

  home_low : (i : ℕ) → i < size → home_by i ≡ 0
  unfolding home_by
  home_low i h = if_yes (ltb i size) 0 _ (lt→ltb i size h)

  home_table : (i : ℕ) → size ≤ i → i < till → home_by i ≡ link_of i
  unfolding home_by
  home_table i l h = if_no (ltb i size) 0 _ (not_below i size l) ∙ if_yes (ltb i till) (link_of i) _ (lt→ltb i till h)

  home_page : (i : ℕ) → size ≤ till → till ≤ i → home_by i ≡ i / size
  unfolding home_by
  home_page i l h = if_no (ltb i size) 0 _ (not_below i size (omega arith)) ∙ if_no (ltb i till) (link_of i) _ (not_below i till h)

pub page_of : (size p i : ℕ) → size * p ≤ i → i < size * p + size → i / size ≡ p
page_of size p i l u = div-eq_of_lt-le size (omega (arith, mul_comm p size)) (omega (arith, mul_comm (p + 1) size, mul-suc size p, ap (λ (n : ℕ). size * n) (add-one p)))

-- ---- links

-- bytes of a link
abbrev pub width : (two : Bool) → ℕ
width true = 2
width false = 1

-- the page whose link a byte of the table is of
abbrev pub link_by : Bool → ℕ → ℕ
link_by true i = i / 2
link_by false i = i

pub link_place : (two : Bool) (s p : ℕ) → (place (link_field two s p) ≡ s + width two * p) × (wide (link_field two s p) ≡ width two)
link_place true s p = (refl, refl)
link_place false s p = (omega arith, refl)

link_by_lem : (two : Bool) (p i : ℕ) → width two * p ≤ i → i < width two * p + width two → link_by two i ≡ p
link_by_lem true p i l u = omega arith
link_by_lem false p i l u = omega arith

-- the last link, as many as there are pages
link_end : (two : Bool) (p N : ℕ) → p < N → width two * p + width two ≤ width two * N
link_end true p N h = omega arith
link_end false p N h = omega arith

-- ---- the geometry

-- N pages of some size, of which some are set aside, fit a table
pub record Tabled (two : Bool) (aside size N : ℕ) : Type 0 where
  pub large : 256 ≤ size
  pub few : N ≤ 1024
  pub one : 1 ≤ aside
  pub some : aside ≤ N
  pub table : size + width two * N ≤ size * aside

abbrev pub home2 : (two : Bool) (aside size : ℕ) → ℕ → ℕ
home2 two aside size = home_by size (size * aside) (λ i. link_by two (i - size))

module _ {two : Bool} {aside size N : ℕ} (t : Tabled two aside size N) where
  pub home_header : (i : ℕ) → i < size → home2 two aside size i ≡ 0
  home_header i h = home_low size (size * aside) (λ i. link_by two (i - size)) i h

  pub home_behind : (p i : ℕ) → aside ≤ p → size * p ≤ i → i < size * p + size → home2 two aside size i ≡ p
  home_behind p i h k l =
      home_page size (size * aside) (λ i. link_by two (i - size)) i (omega (arith, t.table)) (omega (arith, mul-le-mul_left {m = aside} {n = p} size h)) ∙ page_of size p i k l

  -- the bytes of a page's link: in the table
  pub link_in_lem : (p i : ℕ) → p < N → place (link_field two size p) ≤ i → i < place (link_field two size p) + wide (link_field two size p)
      → (size ≤ i) × (i < size * aside)
  link_in_lem p i h k l = let w = link_place two size p in (omega (arith, w.0), omega (arith, w.0, w.1, link_end two p N h, t.table))

  pub lawful2 : Lawful (geometry_by two aside size) (home2 two aside size) N
  lawful2 = record {
    header = t.one;
    room = omega arith;
    of_page = λ p i h k l. home_behind p i h k l;
    of_link = λ p i h k l.
        let w = link_place two size p in
        let r = link_in_lem p i h k l in
        home_table size (size * aside) (λ i. link_by two (i - size)) i r.0 r.1 ∙ link_by_lem two p (i - size) (omega (arith, w.0)) (omega (arith, w.0, w.1));
    of_count = λ i k l. home_header i (omega (arith, t.large));
    of_map = λ p h. home_header (7 + p / 8) (omega (arith, t.large, t.few));
    order = omega arith;
    apart = λ p i h u k l. let w = link_place two size p in omega (arith, w.0, w.1, link_end two p N u, t.table, mul-le-mul_left {m = aside} {n = p} size h);
    links_in = λ p h. let w = link_place two size p in omega (arith, w.0, w.1, link_end two p N h, t.table, mul-le-mul_left {m = aside} {n = N} size t.some);
    map_in = omega (arith, t.large, t.few, t.table, mul-le-mul_left {m = aside} {n = N} size t.some);
  }

  -- what lies behind the bitmap is neither count nor bitmap
  pub kept_behind : (i : ℕ) → 7 + N / 8 < i + 1 → N / 8 * 8 ≡ N → Kept (geometry_by two aside size) N i
  kept_behind i h e = record { count = λ y. omega (arith, h); map = λ p c. omega (arith, h, c, e) }

  -- the link of every page is kept, page 0's too
  pub links2 : (q i : ℕ) → q < N → place ((geometry_by two aside size).link q) ≤ i → i < place ((geometry_by two aside size).link q) + wide ((geometry_by two aside size).link q)
      → Kept (geometry_by two aside size) N i
  links2 q i h l u = let r = link_in_lem q i h l u in record { count = λ k. omega (arith, r.0, t.large); map = λ p c k. omega (arith, r.0, t.large, t.few) }
