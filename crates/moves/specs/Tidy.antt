-- Paper 02 §13, "Tidy pages": an image with its pages at new places. A proposal `places` has a number for each page of the image: its new place.
use Rattle.std.specs.Prelude.{ℕ, suc, ◌+◌, ◌-◌, ◌*◌, ◌/◌, Bool, true, not, length, get_or, set, eqb, if◌then◌else◌}
use Rattle.std.proofs.Math.Option
use mathlib.Core.List.{List, [], ◌∷◌, ◌++◌, map, flat_map}
use Rattle.volume.specs.Bytes.{Bytes, part, same}
use Rattle.volume.specs.Lists.{all, conditions, member, distinct, count_from, up_to, first}
use Rattle.model.specs.Layout.{page_size, page_count, page_bit, link}
use Rattle.model.specs.Entry.{occupied, start_at, entries, Entry, vacant, a_file, a_directory, entry_at}
use Rattle.model.specs.Version1.{view}
use Rattle.model.specs.Sound.{pages_at, reached_entries, owners}
use Rattle.model.specs.Image.{content_on}
use Rattle.model.specs.Call.{refusal, Answer, refused, granted}
use Rattle.model.specs.Refusal.{Line, settle}
use Rattle.model.specs.Meaning.{image_lines}

-- the new place of page p, and the page whose new place is q
abbrev pub place_of : List ℕ → (page : ℕ) → ℕ
place_of places p = get_or places p 0

unfoldable pub page_at : List ℕ → (place : ℕ) → ℕ
page_at places q = Option.get_or (first (λ p. eqb (place_of places p) q) (up_to (length places))) 0

-- ---- "a small check accepts the proposal exactly if"

-- rising neighbours: each number is one more than the one before it
unfoldable pub neighbours : List ℕ → Bool
neighbours [] = true
neighbours (q ∷ qs) = same qs (count_from (suc q) (length qs))

-- There are N numbers, each of 0 to N−1 occurs, none twice; page 0 stays; and the pages of each file, in the order of its chain, get rising
-- neighbouring numbers. (A directory has one page.)
unfoldable pub accepted : Bytes → List ℕ → Bool
accepted b places = conditions (
    eqb (length places) (page_count b)
    ∷ all (λ q. member q places) (up_to (page_count b))
    ∷ distinct places
    ∷ eqb (place_of places 0) 0
    ∷ all (λ at. neighbours (map (place_of places) (pages_at (view b) at))) (reached_entries b)
    ∷ [])

-- ---- "occupied slots' start pages, links and bitmap following and all other page bytes carried along"

-- the 32 bytes of an entry of a directory; the start page of an occupied one follows
unfoldable pub moved_entry : List ℕ → Bytes → (at : ℕ) → Bytes
moved_entry places b at =
    let old = part at 32 b in
    if occupied b at then set old 17 (place_of places (start_at b at)) else old

-- the entry of the file or directory that owns page p; in a sound image a page has at most one (demand 3, `Owned`)
abbrev pub first_entry : Bytes → List ℕ → Entry
first_entry b [] = vacant
first_entry b (at ∷ ats) = entry_at b at

unfoldable pub owner_entry : Bytes → (page : ℕ) → Entry
owner_entry b p = first_entry b (owners b p)

-- the bytes of page p, by its owner's entry: in a file's page the link follows, in a directory's the start pages, and a free page stays
unfoldable pub moved_as : List ℕ → Bytes → (page : ℕ) → Entry → Bytes
moved_as places b p vacant = part (page_size * p) page_size b
moved_as places b p (a_file locked name date start size) = place_of places (link b p) ∷ content_on (view b) p
moved_as places b p (a_directory name date start size) = flat_map (moved_entry places b) (entries p)

unfoldable pub moved_page : List ℕ → Bytes → (page : ℕ) → Bytes
moved_page places b p = moved_as places b p (owner_entry b p)

-- bitmap byte k: the bits of the 8 pages that come to the places from 8·k on, the lowest first
unfoldable pub bits_of : List ℕ → ℕ
bits_of [] = 0
bits_of (x ∷ xs) = x + 2 * bits_of xs

unfoldable pub moved_bits : List ℕ → Bytes → (k : ℕ) → ℕ
moved_bits places b k = bits_of (map (λ q. page_bit b (page_at places q)) (count_from (8 * k) 8))

-- page 0: of the bytes before the root's entries only the first N/8 bitmap bytes change
unfoldable pub moved_header : List ℕ → Bytes → Bytes
moved_header places b =
    let used = page_count b / 8 in
    part 0 4 b ++ map (moved_bits places b) (up_to used) ++ part (4 + used) (60 - used) b ++ flat_map (moved_entry places b) (entries 0)

-- the new image, place after place
unfoldable pub moved : List ℕ → Bytes → Bytes
moved places b = moved_header places b ++ flat_map (λ q. moved_page places b (page_at places q)) (count_from 1 (page_count b - 1))

-- ---- the call

-- "Refusals, after the verdict's": 28, the target has another length; 27, the proposal is not accepted, or has not N numbers
unfoldable pub tidy_lines : Bytes → (places target : Bytes) → List Line
tidy_lines b places target =
    image_lines b
    ++ ((not (eqb (length target) (length b)), refusal 28) ∷ (not (accepted b places), refusal 27) ∷ [])

unfoldable pub tidy_answer : Bytes → (places target : Bytes) → Answer (Unit {0})
tidy_answer b places target = settle (tidy_lines b places target) refused (granted tt)

-- the second lent buffer after the call; the image itself stays
unfoldable pub tidy_after : Bytes → (places target : Bytes) → Bytes
tidy_after b places target = settle (tidy_lines b places target) (λ f. target) (moved places b)
