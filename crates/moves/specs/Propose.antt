-- Paper 02 §13, "our own helper": the proposal that it makes. Any accepted one would do; this is the one that the contract tells.
use Rattle.std.specs.Prelude.{ℕ, suc, ◌-◌, Bool, true, false, not, length, set, eqb, if◌then◌else◌}
use mathlib.Core.List.{List, [], ◌∷◌, ◌++◌, flat_map}
use Rattle.volume.specs.Bytes.{Bytes}
use Rattle.volume.specs.Lists.{keep, count_from}
use Rattle.model.specs.Layout.{page_count}
use Rattle.model.specs.Entry.{Entry, vacant, a_file, a_directory}
use Rattle.model.specs.Version1.{view}
use Rattle.model.specs.Sound.{pages_of}
use Rattle.model.specs.Call.{refusal, Answer, refused, granted}
use Rattle.model.specs.Refusal.{Line, settle}
use Rattle.model.specs.Meaning.{image_lines}
use Rattle.moves.specs.Tidy.{owner_entry}

abbrev pub is_file_entry : Entry → Bool
is_file_entry vacant = false
is_file_entry (a_file locked name date start size) = true
is_file_entry (a_directory name date start size) = false

abbrev pub is_directory_entry : Entry → Bool
is_directory_entry vacant = false
is_directory_entry (a_file locked name date start size) = false
is_directory_entry (a_directory name date start size) = true

-- the pages of the file that starts on page p, in the order of its chain; none where no file does
abbrev pub starts_on : Bytes → (page : ℕ) → Entry → List ℕ
starts_on b p vacant = []
starts_on b p (a_file locked name date start size) = if eqb start p then pages_of (view b) (a_file locked name date start size) else []
starts_on b p (a_directory name date start size) = []

unfoldable pub file_from : Bytes → (page : ℕ) → List ℕ
file_from b p = starts_on b p (owner_entry b p)

-- a directory's page, or a free one
unfoldable pub is_other : Bytes → (page : ℕ) → Bool
is_other b p = not (is_file_entry (owner_entry b p))

-- The header, each file's pages by its start page, then all other pages. (Law `order_once`: in a sound image each page stands in it once.)
unfoldable pub order : Bytes → List ℕ
order b =
    let pages = count_from 1 (page_count b - 1) in
    0 ∷ (flat_map (file_from b) pages ++ keep (is_other b) pages)

-- the pages of the order get the numbers from i on
unfoldable pub numbered : ℕ → (order row : List ℕ) → List ℕ
numbered i [] row = row
numbered i (p ∷ ps) row = numbered (suc i) ps (set row p i)

-- ---- the call

-- after the verdict's: 27, the row has not N numbers
unfoldable pub propose_lines : Bytes → (row : Bytes) → List Line
propose_lines b row = image_lines b ++ ((not (eqb (length row) (page_count b)), refusal 27) ∷ [])

unfoldable pub propose_answer : Bytes → (row : Bytes) → Answer (Unit {0})
propose_answer b row = settle (propose_lines b row) refused (granted tt)

-- the lent row after the call, whatever it held
unfoldable pub propose_after : Bytes → (row : Bytes) → Bytes
propose_after b row = settle (propose_lines b row) (λ f. row) (numbered 0 (order b) row)
