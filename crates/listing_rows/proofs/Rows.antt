-- The lines of a directory are those of its entries, one after the other; an entry's are by its cases. What is read of a directory is readable for
-- each entry.
use mathlib.Core.Path.{◌≡◌, refl, sym, ap, subst, ◌∙◌}
use mathlib.Core.Logic.{◌≢◌}
use Prim.Native.Nat.{ℕ, zero, suc, ◌+◌, ◌-◌, ◌*◌, ◌≤◌, ◌<◌}
use native.Mathlib.Nat.{sub-zero}
use native.Mathlib.Numerals.{add-one}
use native.Mathlib.Omega.{arith}
use native.Mathlib.Decide.{dec_le}
use mathlib.Core.List.{[], ◌∷◌, ◌++◌, map, append-nil}
use lib.ListN.{take}
use lib.Seq.{take-take}
use Rattle.volume.specs.Bytes.{Bytes}
use Rattle.volume.specs.Lists.{count_from}
use Rattle.volume.specs.Chain.{chain}
use Rattle.volume.proofs.Occ.{Mem, mem_head, mem_tail}
use Rattle.model.specs.Layout.{page_count, pages_for, link}
use Rattle.model.specs.Entry as Model
use Rattle.model.specs.Entry.{entry_count, entries_start, entries, is_locked, name_at, date_at, entry_at, vacant, a_file, a_directory}
use Rattle.model.specs.Version1.{view}
use Rattle.model.specs.Sound.{pages_of, owned}
use Rattle.model.specs.Tree.{Row, end}
use Rattle.model.specs.Image.{entry_row, row_of, row_at}
use Rattle.model.specs.Text.{text}
use Rattle.model.specs.Listing.{line, row_lines}
use Rattle.fields.specs.declared.Entry.{Entry}
use Rattle.fields.specs.declared.Entry.TheVariants.{Vacant, File, Directory}
use Rattle.fields.specs.declared.Page.{Page}
use Rattle.fields.specs.Read.{entry_of}
use Rattle.laws.proofs.Owns.{own, own_le}
use Rattle.laws.proofs.Counting.{content_length}
use Rattle.listing_lines.specs.Window.{Window, poured}
use Rattle.listing_lines.proofs.Windows.{poured_nil, poured_next}
use Rattle.listing_rows.specs.Lines.{directory_lines, entry_lines, entry_path, Readable, Extended}

-- the position of entry i of the directory on page p
abbrev position : (page i : ℕ) → ℕ
position p i = entries_start p + 32 * i

-- ---- a directory, entry by entry

-- the lines of the entries from entry i on
unfoldable pub lines_from : (depth : ℕ) → Bytes → (page i : ℕ) → (path : Bytes) → Bytes
lines_from d b p i path = row_lines path (row_of (view b) (row_at d (view b)) (map (position p) (count_from i (entry_count p - i))))

lines_apart : (d : ℕ) (b : Bytes) (e : Model.Entry) (rest : Row) (path : Bytes)
    → row_lines path (entry_row (view b) (row_at d (view b)) e rest) ≡ row_lines path (entry_row (view b) (row_at d (view b)) e end) ++ row_lines path rest
unfolding entry_row row_lines
lines_apart d b vacant rest path = refl
lines_apart d b (a_file locked name date start size) rest path = simp append-nil
lines_apart d b (a_directory name date start size) rest path = simp append-nil

module _ (b : Bytes) (p : ℕ) (path : Bytes) where
  pub lines_none : (depth : ℕ) → depth ≡ 0 → directory_lines depth b p path ≡ []
  unfolding directory_lines row_at row_lines
  lines_none zero e = refl
  lines_none (suc d) e = absurd (omega arith)

  pub lines_first : (depth : ℕ) → depth ≢ 0 → lines_from (depth - 1) b p 0 path ≡ directory_lines depth b p path
  unfolding directory_lines lines_from row_at entries
  lines_first zero ne = absurd (ne refl)
  lines_first (suc d) ne = let e : suc d - 1 ≡ d = omega arith in rw (e, sub-zero (entry_count p))

  pub lines_next : (d i : ℕ) → i < entry_count p → lines_from d b p i path ≡ entry_lines d b (position p i) path ++ lines_from d b p (i + 1) path
  unfolding lines_from entry_lines row_of count_from
  lines_next d i h =
      let e : entry_count p - i ≡ suc (entry_count p - (i + 1)) = omega arith in
      rw (e, add-one i) (lines_apart d b (entry_at b (position p i)) (row_of (view b) (row_at d (view b)) (map (position p) (count_from (suc i) (entry_count p - suc i)))) path)

  pub lines_last : (d n i : ℕ) → n ≡ entry_count p → n ≤ i → lines_from d b p i path ≡ []
  unfolding lines_from row_of count_from row_lines
  lines_last d n i e h = let z : entry_count p - i ≡ 0 = omega arith in rw z

-- ---- the loop over the entries

-- the lines of the entries from entry i on, poured into this window, lead where all lines of the directory lead from the window w
pub record Leads (depth : ℕ) (b : Bytes) (p : ℕ) (path : Bytes) (w : Window) (i : ℕ) (now : Window) : Type 0 where
  pub there : poured (lines_from (depth - 1) b p i path) now ≡ poured (directory_lines depth b p path) w

pub leads_none : (b : Bytes) (p depth : ℕ) (path : Bytes) (w : Window) → depth ≡ 0 → w ≡ poured (directory_lines depth b p path) w
leads_none b p depth path w e = rw (lines_none b p path depth e) (sym (poured_nil w))

module _ {depth : ℕ} {b : Bytes} {p : ℕ} {path : Bytes} {w : Window} where
  pub leads_first : depth ≢ 0 → Leads depth b p path w 0 w
  leads_first ne = record { there = ap (λ (v : Bytes). poured v w) (lines_first b p path depth ne) }

  module _ {i : ℕ} {now : Window} (l : Leads depth b p path w i now) {n : ℕ} (count : n ≡ entry_count p) where
    -- entry i stands at `at`; w' is the window after its lines
    pub leads_next : i < n → {at : ℕ} → at ≡ position p i → {same : Bytes} → same ≡ path → {w' : Window} → w' ≡ poured (entry_lines (depth - 1) b at same) now
        → Leads depth b p path w (i + 1) w'
    leads_next h {at} here {same} e {w'} next =
        let next' : w' ≡ poured (entry_lines (depth - 1) b (position p i) path) now = next ∙ rw (here, e) in
        record {
          there =
              poured_next (entry_lines (depth - 1) b (position p i) path) (lines_from (depth - 1) b p (i + 1) path) now next' refl
              ∙ ap (λ (v : Bytes). poured v now) (sym (lines_next b p path (depth - 1) i (omega arith))) ∙ l.there;
        }

    pub leads_last : n ≤ i → now ≡ poured (directory_lines depth b p path) w
    leads_last h = sym (poured_nil now) ∙ ap (λ (v : Bytes). poured v now) (sym (lines_last b p path (depth - 1) n i count h)) ∙ l.there

-- ---- what is readable

position_in : (s i n j : ℕ) → i ≤ j → j < i + n → Mem (s + 32 * j) (map (λ k. s + 32 * k) (count_from i n))
unfolding count_from
position_in s i zero j l u = absurd (omega arith)
position_in s i (suc n) j l u = elim (dec_le j i) [
  | yes h ↦ let e : i ≡ j = omega arith in
      subst (λ (q : ℕ). Mem (s + 32 * q) (map (λ k. s + 32 * k) (count_from i (suc n)))) e (mem_head (s + 32 * i) (map (λ k. s + 32 * k) (count_from (suc i) n)))
  | no h ↦ mem_tail (s + 32 * j) (s + 32 * i) (map (λ k. s + 32 * k) (count_from (suc i) n)) (position_in s (suc i) n j (omega arith) (omega arith))
]

pub entry_readable : (b : Bytes) (p depth i at n : ℕ) → depth ≢ 0 → n ≡ entry_count p → i < n → at ≡ position p i → Readable b (owned depth (view b) p)
    → Readable b (own (depth - 1) b (entry_at b at))
unfolding entries
entry_readable b p zero i at n ne k h e r = absurd (ne refl)
entry_readable b p (suc d) i at n ne k h e r =
    let m : Mem (position p i) (entries p) = position_in (entries_start p) 0 (entry_count p) i (omega arith) (omega arith) in
    let k : suc d - 1 ≡ d = omega arith in
    rw (e, k) (record { inside = λ q n. r.inside q (omega (arith, own_le d b p (position p i) q m)) })

-- ---- an entry, by its cases

module _ (d : ℕ) (b : Bytes) (at : ℕ) (path : Bytes) where
  lines_vacant : vacant ≡ entry_at b at → entry_lines d b at path ≡ []
  unfolding entry_lines entry_row row_lines
  lines_vacant e = rw (← e)

  lines_file : (start size : ℕ) → a_file (is_locked b at) (name_at b at) (date_at b at) start size ≡ entry_at b at → Readable b (own d b (entry_at b at))
      → entry_lines d b at path ≡ line (text "F") size (entry_path b at path)
  unfolding entry_lines entry_row row_lines own pages_of
  lines_file start size e r =
      let s : Readable b (chain (link b) (pages_for size) start) = subst (λ (x : Model.Entry). Readable b (own d b x)) (sym e) r in
      rw (← e) (append-nil _ ∙ ap (λ (n : ℕ). line (text "F") n (entry_path b at path)) (content_length b start size s.inside))

  lines_directory : (start size : ℕ) → a_directory (name_at b at) (date_at b at) start size ≡ entry_at b at
      → entry_lines d b at path ≡ line (text "D") 256 (entry_path b at path) ++ directory_lines d b start (entry_path b at path)
  unfolding entry_lines directory_lines entry_row row_lines
  lines_directory start size e = rw (← e) (append-nil _)

-- r is the entry that was read, and w the window before its lines
module _ (d : ℕ) (b : Bytes) (at : ℕ) {r : Entry} (read : entry_of r (is_locked b at) (name_at b at) (date_at b at) ≡ entry_at b at) where
  seen : {s : Entry} → r ≡ s → entry_of s (is_locked b at) (name_at b at) (date_at b at) ≡ entry_at b at
  seen e = rw (← e) read

  pub vacant_poured : r ≡ Vacant → (path : Bytes) (w : Window) → w ≡ poured (entry_lines d b at path) w
  vacant_poured e path w = rw (lines_vacant d b at path (seen e)) (sym (poured_nil w))

  -- the path of the entry was written behind that of the directory
  module _ {start : Page} {size : ℕ} {path path' : Bytes} {len end : ℕ} (x : Extended b at path path' len end) (w : Window) {w₁ : Window} where
    pub file_poured : r ≡ File start size → Readable b (own d b (entry_at b at)) → w₁ ≡ poured (line (text "F") size (take end path')) w
        → w₁ ≡ poured (entry_lines d b at (take len path)) w
    file_poured e k l = rw (lines_file d b at (take len path) start.0 size (seen e) k, ← x.whole) l

    pub directory_poured : r ≡ Directory start size → w₁ ≡ poured (line (text "D") 256 (take end path')) w
        → {w₂ : Window} → w₂ ≡ poured (directory_lines d b start.0 (take end path')) w₁ → w₂ ≡ poured (entry_lines d b at (take len path)) w
    directory_poured e l m =
        rw (lines_directory d b at (take len path) start.0 size (seen e), ← x.whole)
        (poured_next (line (text "D") 256 (take end path')) (directory_lines d b start.0 (take end path')) w l m)

  module _ {start : Page} {size : ℕ} (e : r ≡ Directory start size) (k : Readable b (own d b (entry_at b at))) where
    below : Readable b (start.0 ∷ owned d (view b) start.0)
    unfolding own
    below = subst (λ (x : Model.Entry). Readable b (own d b x)) (sym (seen e)) k

    pub below_inside : start.0 < page_count b
    below_inside = omega (arith, below.inside start.0 (mem_head start.0 (owned d (view b) start.0)))

    pub below_readable : Readable b (owned d (view b) start.0)
    below_readable = record { inside = λ q m. below.inside q (mem_tail q start.0 (owned d (view b) start.0) m) }

-- the path of the directory stays when what is behind it was written
pub front_kept : {b : Bytes} {at : ℕ} {path path' : Bytes} (path'' : Bytes) {len end : ℕ} → Extended b at path path' len end → take end path'' ≡ take end path'
    → take len path'' ≡ take len path
front_kept {b} {at} {path} {path'} path'' {len} {end} e k =
    sym (take-take len end path'' e.low) ∙ ap (take len) k ∙ take-take len end path' e.low ∙ e.front
