-- What list tells of a directory: its entries in the order of the view's row, however many pages they stand on.
use Rattle.std.specs.Prelude.{ℕ, zero, suc, List, [], ◌∷◌}
use Rattle.volume.specs.Bytes.{Bytes}
use Rattle.model.specs.Entry.{Entry, vacant, a_file, a_directory}
use Rattle.model.specs.View.{View}
use Rattle.model.specs.Call.{is_file, is_directory, Listed, empty, holds, refusal, refusal_at, Answer, refused, granted}
use Rattle.model.specs.Version.{Version}
use Rattle.arrivals.specs.Places.{Spot, the_root, the_file, the_directory, numbers_on}

-- an entry as list tells it; a directory's size is that of a page
unfoldable pub entry_told : (page_size : ℕ) → Entry → Listed
entry_told z vacant = empty
entry_told z (a_file locked name date start size) = holds (is_file locked) name size date
entry_told z (a_directory name date start size) = holds is_directory name z date

-- entry i of those at these positions, or 12 past the last
unfoldable pub listed_of : (page_size : ℕ) → View → List ℕ → (i : ℕ) → Answer Listed
listed_of z v [] i = refused (refusal 12)
listed_of z v (at ∷ ats) zero = granted (entry_told z (v.entry_at at))
listed_of z v (at ∷ ats) (suc i) = listed_of z v ats i

module _ (w : Version) where
  -- entry i of the directory p
  abbrev pub entry_listed : Bytes → (directory i : ℕ) → Answer Listed
  entry_listed b p i = listed_of (numbers_on w b).page_size (w.see b) ((w.see b).entries p) i

  -- 6: list meets a file where it needs a directory
  abbrev pub list_at : Bytes → (i : ℕ) → Spot → Answer Listed
  list_at b i the_root = entry_listed b 0 i
  list_at b i (the_file at begins start size) = refused (refusal_at 6 begins)
  list_at b i (the_directory at begins start size) = entry_listed b start i
