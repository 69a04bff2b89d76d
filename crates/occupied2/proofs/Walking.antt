-- A walk from page to page: what the row left has behind its vacant entries, the whole row has, and the entries passed and left are all of them.
use mathlib.Core.Path.{◌≡◌, refl, sym, ap, ap₂, ◌∙◌}
use mathlib.Core.Logic.{◌≢◌}
use Prim.Native.Nat.{ℕ, zero, suc, ◌+◌, ◌-◌, ◌*◌, ◌≤◌, ◌<◌}
use native.Mathlib.Nat.{sub-zero}
use native.Mathlib.Omega.{arith}
use mathlib.Core.Bool.{Bool}
use mathlib.Core.List.{List, [], ◌++◌, map, flat_map}
use lib.ListN.{length, length-append}
use Rattle.volume.specs.Bytes.{Bytes}
use Rattle.volume.specs.Lists.{count_from}
use Rattle.volume.specs.Geometry as On
use Rattle.volume.proofs.Occ.{mem_head}
use Rattle.volume.proofs.Follow.{PageLies, Lies}
use Rattle.model2.specs.Version2.{entry_count, entries_start, entries_on}
use Rattle.shape.specs.declared.Shape.{Shape}
use Rattle.shape.specs.Geometry.{geometry_of}
use Rattle.rows2.specs.Roomy.{Roomy}
use Rattle.rows2.proofs.On.{entry_lies, some_entry}
use Rattle.cursor2.specs.declared.Cursor.{Cursor}
use Rattle.cursor2.specs.Row.{behind, entries_from, row_from, Stands}
use Rattle.cursor2.proofs.Turns.{behind_more}
use Rattle.occupied2.specs.Passing.{past, number_from, Between, row_behind}
use Rattle.occupied2.proofs.Passing.{some_left, none_left}

-- ---- a page's part of what is left

steps_length : (st i m : ℕ) → length (map (λ j. st + 32 * j) (count_from i m)) ≡ m
unfolding count_from
steps_length st i zero = refl
steps_length st i (suc m) = ap suc (steps_length st (suc i) m)

module _ (size n : ℕ) (next : ℕ → ℕ) (p left : ℕ) where
  abbrev others : List ℕ
  others = flat_map (entries_on size n) (behind next left p)

  from_length : (i : ℕ) → length (entries_from size n next p i left) ≡ (entry_count size n p - i) + length others
  unfolding entries_from
  from_length i =
      length-append (map (λ j. entries_start size n p + 32 * j) (count_from i (entry_count size n p - i))) others
      ∙ ap (λ (k : ℕ). k + length others) (steps_length (entries_start size n p) i (entry_count size n p - i))

  pub others_none : behind next left p ≡ [] → others ≡ []
  unfolding flat_map
  others_none e = ap (flat_map (entries_on size n)) e

  -- the row of the pages behind begins with all entries of the first of them
  pub others_next : (q : ℕ) → left ≢ 0 → q ≡ next p → q ≢ 0 → others ≡ entries_from size n next q 0 (left - 1)
  unfolding entries_from entries_on flat_map
  others_next q z e ne =
      ap (flat_map (entries_on size n)) (behind_more next left p q z e ne)
      ∙ ap (λ (m : ℕ). map (λ j. entries_start size n q + 32 * j) (count_from 0 m) ++ flat_map (entries_on size n) (behind next (left - 1) q))
      (sym (sub-zero (entry_count size n q)))

-- ---- the walk

pub record Passing (f : ℕ → Bool) (s : Shape) (n : ℕ) (b : Bytes) (c₀ : Cursor) (i₀ : ℕ) (c : Cursor) (i : ℕ) : Type 0 where
  pub between : Between s n b c
  pub left : past f (row_from s n b c) ≡ past f (row_from s n b c₀)
  pub count : i + length (row_from s n b c) ≡ i₀ + length (row_from s n b c₀)

module _ {s : Shape} {n : ℕ} {b : Bytes} {c : Cursor} (t : Between s n b c) where
  pub page_lies : PageLies (geometry_of s) c.page.0 b
  page_lies = (t.pages c.page.0 (mem_head c.page.0 (behind (On.next (geometry_of s) b) c.left c.page.0))).0

  pub link_lies : Lies ((geometry_of s).link c.page.0) b
  link_lies = (t.pages c.page.0 (mem_head c.page.0 (behind (On.next (geometry_of s) b) c.left c.page.0))).1

  -- all entries of the page lie in the image
  pub entries_lie : Roomy s.size n → entries_start s.size n c.page.0 + 32 * entry_count s.size n c.page.0 ≤ length b
  entries_lie r =
      let m = entry_count s.size n c.page.0 in
      omega (arith, entry_lies r c.page.0 (m - 1) (omega (arith, some_entry r c.page.0)), some_entry r c.page.0, page_lies)

module _ {f : ℕ → Bool} {s : Shape} {n : ℕ} {b : Bytes} {c₀ : Cursor} {i₀ : ℕ} {c : Cursor} {i : ℕ} (o : Passing f s n b c₀ i₀ c i) where
  abbrev here : ℕ
  here = c.page.0

  abbrev many : ℕ
  many = entry_count s.size n here

  abbrev start : ℕ
  start = entries_start s.size n here

  abbrev links : ℕ → ℕ
  links = On.next (geometry_of s) b

  -- the search on the page begins at `st`, with `all` entries, and answers `first`
  module _ {st all first : ℕ} (begins : st ≡ start) (each : all ≡ many)
      (found : (first ≡ number_from f st c.number (all - c.number)) × (c.number ≤ first) × (first ≤ all)) where
    is : first ≡ number_from f start c.number (many - c.number)
    is = found.0 ∙ ap₂ (λ (x y : ℕ). number_from f x c.number (y - c.number)) begins each

    pub passed_few : i + (first - c.number) ≤ i₀ + length (row_from s n b c₀)
    passed_few = omega (arith, each, found.2, o.count, o.between.within, from_length s.size n links here c.left c.number)

    module _ (h : first < all) where
      pub met_row : entries_from s.size n links here first c.left ≡ past f (row_from s n b c₀)
      unfolding entries_from
      met_row =
          let e : c.number + (many - c.number) ≡ many = omega (arith, o.between.within) in
          let ys = others s.size n links here c.left in
          ap (λ (k : ℕ). map (λ j. start + 32 * j) (count_from k (many - k)) ++ ys) is
          ∙ sym (some_left f start ys c.number (many - c.number) many e (omega (arith, is, h, each))) ∙ o.left

      pub met_count : i + (first - c.number) + length (entries_from s.size n links here first c.left) ≡ i₀ + length (row_from s n b c₀)
      met_count = omega (
        arith,
        found.1,
        h,
        each,
        o.count,
        from_length s.size n links here c.left first,
        from_length s.size n links here c.left c.number,
      )

    module _ (h : all ≤ first) where
      others_left : past f (others s.size n links here c.left) ≡ past f (row_from s n b c₀)
      unfolding entries_from
      others_left =
          let e : c.number + (many - c.number) ≡ many = omega (arith, o.between.within) in
          let ys = others s.size n links here c.left in
          sym (none_left f start ys c.number (many - c.number) many e (omega (arith, is, h, each))) ∙ o.left

      -- the pages behind are left
      module _ {rest : List ℕ} (turn : row_behind s n b c ≡ rest) where
        pub met_end : rest ≡ [] → [] ≡ past f (row_from s n b c₀)
        unfolding past
        met_end e = ap (past f) (sym e) ∙ ap (past f) (sym turn) ∙ others_left

        pub passing_next : {next : Cursor} → rest ≡ row_from s n b next → Stands s n b next → Passing f s n b c₀ i₀ next (i + (first - c.number))
        passing_next {next} e u =
            let row : others s.size n links here c.left ≡ row_from s n b next = turn ∙ e in
            record {
              between = record { within = omega (arith, u.within); pages = u.pages };
              left = ap (past f) (sym row) ∙ others_left;
              count = omega (
                arith,
                found.1,
                found.2,
                h,
                each,
                o.count,
                ap (λ (l : List ℕ). length l) row,
                from_length s.size n links here c.left c.number,
              );
            }
