-- Document 01, "A sound image": what is asked of an entry, of a directory and of a whole image by a view v, and paper 02 §12 where a directory has
-- pages of its own and pages are set aside. Last what is said of an image of version 1 by its bytes b. In version 1 v is `view b`: the link of page p
-- is `next v p`, a directory is one page, which ends it, `v.geometry.size` is 0x0100 and `v.geometry.aside` is 1.
use Rattle.std.specs.Prelude.{ℕ, zero, suc, ◌-◌, Bool, true, false, not, ◌&&◌, length, eqb, leb, ltb, if◌then◌else◌}
use Rattle.std.specs.Bool.{beq}
use mathlib.Core.List.{List, [], ◌∷◌, ◌++◌, flat_map, tail}
use Rattle.volume.specs.Bytes.{Bytes, same}
use Rattle.volume.specs.Lists.{all, keep, conditions, member, distinct, count_from}
use Rattle.volume.specs.Chain.{chain, beyond}
use Rattle.model.specs.Layout.{page_count, valid_length, valid_header}
use Rattle.model.specs.Name.{legal_name}
use Rattle.model.specs.Entry.{Entry, vacant, a_file, a_directory}
use Rattle.model.specs.View.{View, next, page_bit, zero_bits, free_count}
use Rattle.model.specs.Version1.{view}

-- ---- one entry

-- the pages that an entry owns, in order: a directory those that it is on, in version 1 its start page; a file its chain
unfoldable pub pages_of : View → Entry → List ℕ
pages_of v vacant = []
pages_of v (a_file locked name date start size) = chain (next v) (v.numbers.pages_for size) start
pages_of v (a_directory name date start size) = v.directory_pages start

-- A legal name; a directory ends, and has the size of a page; the last page of a file has link 0. (Every file has a page, also an empty one: paper
-- 02 §1.)
unfoldable pub good_entry : View → Entry → Bool
good_entry v vacant = true
good_entry v (a_file locked name date start size) = legal_name name && eqb (beyond (next v) (v.numbers.pages_for size) start) 0
good_entry v (a_directory name date start size) = v.directory_ends start && (legal_name name && eqb size v.geometry.size)

-- an entry has this name: all 16 bytes are equal
unfoldable pub is_named : Bytes → Entry → Bool
is_named n vacant = false
is_named n (a_file locked name date start size) = same name n
is_named n (a_directory name date start size) = same name n

-- two entries have the same name
unfoldable pub same_name : Entry → Entry → Bool
same_name vacant e = false
same_name (a_file locked name date start size) e = is_named name e
same_name (a_directory name date start size) e = is_named name e

-- ---- one directory

-- no two occupied entries at these positions have the same name
unfoldable pub names_apart : View → List ℕ → Bool
names_apart v [] = true
names_apart v (at ∷ ats) = all (λ later. not (same_name (v.entry_at at) (v.entry_at later))) ats && names_apart v ats

-- ---- the directory p and those below it, to a depth

-- `below` of a directory's start page, or a value for any other entry
abbrev pub in_directory {ℓ} : {A : Type ℓ} → A → (ℕ → A) → Entry → A
in_directory other below vacant = other
in_directory other below (a_file locked name date start size) = other
in_directory other below (a_directory name date start size) = below start

-- every entry good, and no two of one directory with the same name
unfoldable pub good_directory : (depth : ℕ) → View → (directory : ℕ) → Bool
good_directory zero v p = false
good_directory (suc depth) v p = conditions (
    all (λ at. good_entry v (v.entry_at at)) (v.entries p)
    ∷ names_apart v (v.entries p)
    ∷ all (λ at. in_directory true (good_directory depth v) (v.entry_at at)) (v.entries p)
    ∷ [])

-- what is reached by way of the entry at position `at`: itself, and what is below it if it is a directory
unfoldable pub reached_by : ℕ → (ℕ → List ℕ) → Entry → List ℕ
reached_by at below vacant = []
reached_by at below (a_file locked name date start size) = at ∷ []
reached_by at below (a_directory name date start size) = at ∷ below start

-- the positions of all files and directories: entries in order, a directory's contents directly after it
unfoldable pub reached : (depth : ℕ) → View → (directory : ℕ) → List ℕ
reached zero v p = []
reached (suc depth) v p = flat_map (λ at. reached_by at (reached depth v) (v.entry_at at)) (v.entries p)

abbrev pub pages_at : View → ℕ → List ℕ
pages_at v at = pages_of v (v.entry_at at)

-- the pages owned by the files and directories reached, each as often as it is owned; the directory's own are not among them
abbrev pub owned : (depth : ℕ) → View → (directory : ℕ) → List ℕ
owned depth v p = flat_map (pages_at v) (reached depth v p)

-- ---- an image, by its view

-- the pages of the root after page 0, and those of all files and directories; in version 1 the root has no other page
abbrev pub all_owned : (depth : ℕ) → View → List ℕ
all_owned depth v = tail (v.directory_pages 0) ++ owned depth v 0

-- one of the image's pages, and not set aside: in version 1, from 1 to N - 1
abbrev pub in_range : View → ℕ → Bool
in_range v p = leb v.geometry.aside p && ltb p v.pages

-- the bits of the pages below n are 1; the pages set aside are so marked, in version 1 page 0 alone
abbrev pub marked_below : View → ℕ → Bool
marked_below v zero = true
marked_below v (suc n) = marked_below v n && eqb (page_bit v n) 1

-- The facts of a sound image after its length and its header, in the order of the paper's list, directories being read to a depth: bits of the pages
-- set aside and count; the root and all below it; the pages owned, none out of range or owned twice; a page marked exactly if it is owned.
abbrev pub sound_facts : (depth : ℕ) → View → List Bool
sound_facts depth v =
    let aside = v.geometry.aside in
    let pages = all_owned depth v in (
    marked_below v aside
    ∷ eqb (free_count v) (zero_bits v v.pages)
    ∷ (v.directory_ends 0 && good_directory depth v 0)
    ∷ all (in_range v) pages
    ∷ distinct pages
    ∷ all (λ p. beq (eqb (page_bit v p) 1) (member p pages)) (count_from aside (v.pages - aside))
    ∷ [])

-- A sound image: what is asked of it before it is read, its length and its header, and then these facts, directories being read to a depth.
unfoldable pub sound_by : View → (depth : ℕ) (asked : List Bool) → Bool
sound_by v depth asked = conditions (asked ++ sound_facts depth v)

-- Who owns page p: 0, which is no entry's position, for the root, if it is one of its pages after page 0; and entries by position.
abbrev pub root_owns : ℕ → (root_pages : List ℕ) → List ℕ
root_owns p [] = []
root_owns p (q ∷ qs) = if member p (q ∷ qs) then 0 ∷ [] else []

unfoldable pub owners_in : View → ℕ → List ℕ
owners_in v p = root_owns p (tail (v.directory_pages 0)) ++ keep (λ at. member p (pages_at v at)) (reached v.pages v 0)

-- ---- an image of version 1

-- its length, bytes 0 to 2, and the facts in the order of the paper's list, directories being read to a depth
abbrev pub sound_to : (depth : ℕ) → Bytes → Bool
sound_to depth b = sound_by (view b) depth (valid_length (length b) ∷ valid_header b ∷ [])

-- Directories that own a page each are nested less deep than there are pages, so N is deep enough: law `depth_enough`.
abbrev pub sound : Bytes → Bool
sound b = sound_to (page_count b) b

-- the files and directories of an image, by position; the pages that are owned; and those that own page p
abbrev pub reached_entries : Bytes → List ℕ
reached_entries b = let v = view b in reached v.pages v 0

abbrev pub owned_pages : Bytes → List ℕ
owned_pages b = let v = view b in all_owned v.pages v

abbrev pub owners : Bytes → ℕ → List ℕ
owners b p = owners_in (view b) p
