-- Entry i of a directory, page by page: what is left of a row behind k entries of a page is the row from k entries further on, and behind all that the page has
-- left it is the row of the pages behind.
use mathlib.Core.Path.{◌≡◌, refl, sym, ap, ◌∙◌}
use Prim.Native.Nat.{ℕ, zero, suc, ◌+◌, ◌-◌, ◌≤◌, ◌<◌}
use native.Mathlib.Omega.{arith}
use mathlib.Core.List.{List, [], ◌∷◌}
use lib.ListN.{length, drop, length-drop}
use lib.Seq.{drop-drop}
use Rattle.volume.specs.Bytes.{Bytes}
use Rattle.volume.specs.Geometry as On
use Rattle.model2.specs.Version2.{entry_count}
use Rattle.shape.specs.declared.Shape.{Shape}
use Rattle.shape.specs.Geometry.{geometry_of}
use Rattle.cursor2.specs.declared.Cursor.{Cursor}
use Rattle.cursor2.specs.Row.{entries_from, position_at, row_from, Stands}
use Rattle.cursor2.proofs.Turns.{turn_same}

drop_steps : (size n : ℕ) (next : ℕ → ℕ) (p left k i : ℕ) → i + k ≤ entry_count size n p
    → drop k (entries_from size n next p i left) ≡ entries_from size n next p (i + k) left
drop_steps size n next p left zero i h = let e : i ≡ i + 0 = omega arith in ap (λ (j : ℕ). entries_from size n next p j left) e
drop_steps size n next p left (suc k) i h =
    let e : i + 1 + k ≡ i + suc k = omega arith in
    ap (drop (suc k)) (turn_same size n next p i (omega arith) left) ∙ drop_steps size n next p left k (i + 1) (omega arith)
    ∙ ap (λ (j : ℕ). entries_from size n next p j left) e

module _ {s : Shape} {n : ℕ} {b : Bytes} {c : Cursor} (t : Stands s n b c) where
  -- the cursor so many entries further on its page
  abbrev on : ℕ → Cursor
  on k = record { page = c.page; number = k; left = c.left }

  pub on_stands : {k : ℕ} → k < entry_count s.size n c.page.0 → Stands s n b (on k)
  on_stands h = record { within = h; pages = t.pages }

  on_row : (k : ℕ) → c.number + k ≤ entry_count s.size n c.page.0 → drop k (row_from s n b c) ≡ row_from s n b (on (c.number + k))
  on_row k h = drop_steps s.size n (On.next (geometry_of s) b) c.page.0 c.left k c.number h

  -- the last entry of the page is the cursor, and the rest is behind it
  pub over_page : {k : ℕ} → k ≡ entry_count s.size n c.page.0 - 1 → {rest : List ℕ} → row_from s n b (on k) ≡ position_at s n (on k) ∷ rest
      → rest ≡ drop (entry_count s.size n c.page.0 - c.number) (row_from s n b c)
  over_page {k} last row =
      let w = t.within in
      let m : ℕ = k - c.number in
      let same : c.number + m ≡ k = omega arith in
      let all : m + 1 ≡ entry_count s.size n c.page.0 - c.number = omega arith in
      sym (ap (λ (j : ℕ). drop j (row_from s n b c)) (sym all)
      ∙ sym (drop-drop 1 m (row_from s n b c))
      ∙ ap (drop 1) (on_row m (omega arith) ∙ ap (λ (j : ℕ). row_from s n b (on j)) same ∙ row))

-- ---- the loop

-- the entry looked for is so many further than the cursor
pub record Seeking (s : Shape) (n : ℕ) (b : Bytes) (i : ℕ) (c₀ : Cursor) (further : ℕ) (c : Cursor) : Type 0 where
  pub stands : Stands s n b c
  pub left : drop further (row_from s n b c) ≡ drop i (row_from s n b c₀)

module _ {s : Shape} {n : ℕ} {b : Bytes} {i : ℕ} {c₀ : Cursor} {further : ℕ} {c : Cursor} (o : Seeking s n b i c₀ further c)
    {count : ℕ} (held : count ≡ entry_count s.size n c.page.0) where
  -- it stands on the cursor's page
  pub seek_here : {all : List ℕ} → row_from s n b c₀ ≡ all → further < count - c.number
      → (row_from s n b (on o.stands (c.number + further)) ≡ drop i all) × Stands s n b (on o.stands (c.number + further))
  seek_here whole h = (
    sym (on_row o.stands further (omega (arith, held))) ∙ o.left ∙ ap (drop i) whole,
    on_stands o.stands (omega (arith, held)),
  )

  module _ (h : count - c.number ≤ further) {rest : List ℕ} (row : rest ≡ drop (entry_count s.size n c.page.0 - c.number) (row_from s n b c)) where
    past : drop (further - (count - c.number)) rest ≡ drop i (row_from s n b c₀)
    past =
        let e : entry_count s.size n c.page.0 - c.number + (further - (count - c.number)) ≡ further = omega (arith, held) in
        ap (drop (further - (count - c.number))) row
        ∙ drop-drop (further - (count - c.number)) (entry_count s.size n c.page.0 - c.number) (row_from s n b c)
        ∙ ap (λ (j : ℕ). drop j (row_from s n b c)) e ∙ o.left

    -- or behind it, and the row grows shorter
    pub seek_fewer : length rest < length (row_from s n b c)
    seek_fewer = omega (
      arith,
      o.stands.within,
      ap (λ (xs : List ℕ). length xs) row,
      length-drop (entry_count s.size n c.page.0 - c.number) (row_from s n b c),
      ap (λ (xs : List ℕ). length xs) (turn_same s.size n (On.next (geometry_of s) b) c.page.0 c.number o.stands.within c.left),
    )

    pub seek_next : {next : Cursor} → rest ≡ row_from s n b next → Stands s n b next → Seeking s n b i c₀ (further - (count - c.number)) next
    seek_next {next} z t = record { stands = t; left = ap (drop (further - (count - c.number))) (sym z) ∙ past }

    -- or there is none
    pub seek_end : {all : List ℕ} → row_from s n b c₀ ≡ all → rest ≡ [] → [] ≡ drop i all
    seek_end whole z = sym (nothing (further - (count - c.number))) ∙ ap (drop (further - (count - c.number))) (sym z) ∙ past ∙ ap (drop i) whole
      where
        nothing : (k : ℕ) → ◌≡◌ {A = List ℕ} (drop k []) []
        nothing zero = refl
        nothing (suc k) = refl
