-- Paper 02 §2, and §12 where a directory has several pages: what is unsound, and where, by a view v of the image; in version 1 v is `view b`, and
-- `judge b` judges an image. The walk is depth first, entries in order, with an owner mark for each page (not the bitmap's), 1 once an earlier step
-- owned it, and it stops at the first fault; then come the lost pages, and last the bits of the pages set aside and the count. `Meaning` gives each
-- fault its number. Law `judge_sound`: an image of right length and header is judged clean exactly if it is sound.
use Rattle.std.specs.Prelude.{ℕ, zero, suc, ◌-◌, Bool, true, false, not, ◌&&◌, get_or, set, replicate, eqb, if◌then◌else◌}
use Rattle.std.proofs.Math.Option.{Option, none, some}
use mathlib.Core.List.{List, [], ◌∷◌, tail}
use Rattle.volume.specs.Bytes.{Bytes}
use Rattle.volume.specs.Lists.{all, count_from, first}
use Rattle.model.specs.Name.{legal_name}
use Rattle.model.specs.Entry.{Entry, vacant, a_file, a_directory}
use Rattle.model.specs.View.{View, next, page_bit, zero_bits, free_count}
use Rattle.model.specs.Version1.{view}
use Rattle.model.specs.Sound.{is_named, in_range, marked_below}

-- An entry is told by the page that it stands on, 0 for the root's first, and its number there, counted from 0. The root has no entry: its own
-- pages are told as those of entry 255 of page 0 (§12).
pub data Fault : Type 0 where
  -- the name is not legal or is that of an earlier entry, or a directory's size is not that of a page
  bad_entry : (page entry : ℕ) → Fault
  -- a page is out of range, or the chain does not end where the size says; so many of its pages passed before
  bad_chain : (page entry passed : ℕ) → Fault
  -- an earlier step owned the page
  owned_twice : (page : ℕ) → Fault
  -- the page is owned and its bitmap bit is 0
  marked_free : (page : ℕ) → Fault
  -- nobody owns the page and its bitmap bit is 1
  lost_page : (page : ℕ) → Fault
  -- the bit of a page set aside is not 1 (in version 1 bit 0), or the number of free pages (byte 3) is not that of zero bits
  bad_count : Fault

-- the owner marks so far, or the first fault
pub data Judged : Type 0 where
  fault : Fault → Judged
  clean : List ℕ → Judged

unfoldable pub then_judge : Judged → (List ℕ → Judged) → Judged
then_judge (fault f) on = fault f
then_judge (clean marks) on = on marks

-- ---- pages

-- Page p gets an owner: its range, then whether an earlier step owned it, then its bit.
unfoldable pub judge_page : View → (range : Fault) → (page : ℕ) → List ℕ → Judged
judge_page v range p marks =
    if in_range v p
    then (if eqb (get_or marks p 0) 0 then (if eqb (page_bit v p) 1 then clean (set marks p 1) else fault (marked_free p)) else fault (owned_twice p))
    else fault range

-- k pages of a file from p on, of which some have passed; the last of them then has link 0. Its entry is number i on page d.
unfoldable pub judge_chain : View → (d i k passed p : ℕ) → List ℕ → Judged
judge_chain v d i zero passed p marks = if eqb p 0 then clean marks else fault (bad_chain d i passed)
judge_chain v d i (suc k) passed p marks = then_judge (judge_page v (bad_chain d i passed) p marks) (judge_chain v d i k (suc passed) (next v p))

-- the pages of a directory in chain order, of which some have passed, and then what follows them; its entry is number i on page d
abbrev pub judge_pages : View → (d i passed : ℕ) → List ℕ → (List ℕ → Judged) → List ℕ → Judged
judge_pages v d i passed [] on = on
judge_pages v d i passed (p ∷ ps) on = λ marks. then_judge (judge_page v (bad_chain d i passed) p marks) (judge_pages v d i (suc passed) ps on)

-- ---- entries

-- a legal name that none of the earlier entries has
unfoldable pub fresh_name : View → (earlier : List ℕ) → Bytes → Bool
fresh_name v earlier name = legal_name name && all (λ at. not (is_named name (v.entry_at at))) earlier

-- Entry i of the directory d, after the earlier ones: its name, then equality with an earlier entry, then a directory's size, then its pages in
-- chain order, then a directory's contents. `below` judges a directory.
unfoldable pub judge_entry : (ℕ → List ℕ → Judged) → View → (d i : ℕ) (earlier : List ℕ) → Entry → List ℕ → Judged
judge_entry below v d i earlier vacant marks = clean marks
judge_entry below v d i earlier (a_file locked name date start size) marks =
    let place = v.place_of d i in
    let walked = judge_chain v place.0 place.1 (v.numbers.pages_for size) 0 start marks in
    if fresh_name v earlier name then walked else fault (bad_entry place.0 place.1)
judge_entry below v d i earlier (a_directory name date start size) marks =
    let place = v.place_of d i in
    let walked = judge_pages v place.0 place.1 0 (v.directory_pages start) (below start) marks in
    if fresh_name v earlier name && eqb size v.geometry.size then walked else fault (bad_entry place.0 place.1)

unfoldable pub judge_entries : (ℕ → List ℕ → Judged) → View → (d i : ℕ) (earlier ats : List ℕ) → List ℕ → Judged
judge_entries below v d i earlier [] marks = clean marks
judge_entries below v d i earlier (at ∷ ats) marks =
    then_judge (judge_entry below v d i earlier (v.entry_at at) marks) (judge_entries below v d (suc i) (at ∷ earlier) ats)

-- Every directory has a page of its own, so depth N is enough: any greater depth tells the same (law `judge_depth`), and the first line
-- decides nothing; the fault there is one that the walk tells, so that at every depth it tells no lost page and no bad count.
unfoldable pub judge_directory : (depth : ℕ) → View → (directory : ℕ) → List ℕ → Judged
judge_directory zero v p marks = fault (bad_entry p 0)
judge_directory (suc depth) v p marks = judge_entries (judge_directory depth v) v p 0 [] (v.entries p) marks

-- ---- an image, by its view

-- the walk alone: every owned page gets its owner mark, none having one at the beginning; the root's own pages after page 0 come first (§12)
abbrev pub judge_root : View → Judged
judge_root v = judge_pages v 0 255 0 (tail (v.directory_pages 0)) (judge_directory v.pages v 0) (replicate v.pages 0)

-- after a clean walk: the lowest marked page that nobody owns, then the bits of the pages set aside and the count
unfoldable pub lost_or : Judged → Option ℕ → Judged
lost_or rest none = rest
lost_or rest (some p) = fault (lost_page p)

unfoldable pub judge_rest : View → List ℕ → Judged
judge_rest v marks =
    let aside = v.geometry.aside in
    let counted = marked_below v aside && eqb (free_count v) (zero_bits v v.pages) in
    lost_or (if counted then clean marks else fault bad_count)
    (first (λ p. eqb (get_or marks p 0) 0 && eqb (page_bit v p) 1) (count_from aside (v.pages - aside)))

unfoldable pub judge_view : View → Judged
judge_view v = then_judge (judge_root v) (judge_rest v)

unfoldable pub is_clean : Judged → Bool
is_clean (fault f) = false
is_clean (clean marks) = true

-- ---- an image of version 1

abbrev pub judge_walk : Bytes → Judged
judge_walk b = judge_root (view b)

abbrev pub judge : Bytes → Judged
judge b = judge_view (view b)
