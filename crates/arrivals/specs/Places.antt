-- Where a path leads on the bytes of an image, in the model's words, over any version of the format: by the image's view v, and with the lines that stand
-- above the walk by the version w, whose view of an image is `w.see b`.
use Rattle.std.specs.Prelude.{ℕ, Bool, false, List, [], ◌∷◌, ◌++◌}
use Rattle.std.proofs.Math.Option.{Option, none, some}
use Rattle.volume.specs.Bytes.{Bytes}
use Rattle.model.specs.Entry.{Entry, vacant, a_file, a_directory}
use Rattle.model.specs.Numbers.{Numbers}
use Rattle.model.specs.View.{View}
use Rattle.model.specs.Path.{Name, Path, no_path, root, below, path_of}
use Rattle.model.specs.Walk.{Walked, arrived, missing, blocked, in_walked, entry_named, walk_on}
use Rattle.model.specs.Call.{refusal_at, Answer, refused, granted}
use Rattle.model.specs.Version.{Version}
use Rattle.model.specs.RefusalOf.{Line, path_line, settle}
use Rattle.model.specs.MeaningOf.{image_lines}

-- The root, or what an entry says: its position, where its name begins in the path, its start page and its size.
pub data Spot : Type 0 where
  the_root : Spot
  the_file : (entry begins start size : ℕ) → Spot
  the_directory : (entry begins start size : ℕ) → Spot

-- what else an entry says: its mark, its name and its date
unfoldable pub lock_in : Entry → Bool
lock_in vacant = false
lock_in (a_file locked name date start size) = locked
lock_in (a_directory name date start size) = false

unfoldable pub name_in : Entry → Bytes
name_in vacant = []
name_in (a_file locked name date start size) = name
name_in (a_directory name date start size) = name

unfoldable pub date_in : Entry → Bytes
date_in vacant = []
date_in (a_file locked name date start size) = date
date_in (a_directory name date start size) = date

-- ---- the walk to the end of a path

-- No entry that has a name is vacant.
unfoldable pub spot_at : Name → (position : ℕ) → Entry → Walked Spot
spot_at n at vacant = missing n.begins
spot_at n at (a_file locked name date start size) = arrived (the_file at n.begins start size)
spot_at n at (a_directory name date start size) = arrived (the_directory at n.begins start size)

unfoldable pub spot_named : View → Name → Option ℕ → Walked Spot
spot_named v n none = missing n.begins
spot_named v n (some at) = spot_at n at (v.entry_at at)

unfoldable pub located : View → Path → Walked Spot
located v no_path = missing 0
located v root = arrived the_root
located v (below ns n) = in_walked (walk_on v ns 0) (λ p. spot_named v n (entry_named v p n.bytes))

-- ---- as an answer: where the walk stops, it is the refusal 5 or 6

unfoldable pub walked_answer : {A : Type 0} → Walked A → Answer A
walked_answer (arrived x) = granted x
walked_answer (missing i) = refused (refusal_at 5 i)
walked_answer (blocked i) = refused (refusal_at 6 i)

-- in the directory p
abbrev pub place_named : View → (directory : ℕ) → Name → Answer Spot
place_named v p n = walked_answer (spot_named v n (entry_named v p n.bytes))

-- line 4, and then the walk
unfoldable pub place_walked : View → (path : Bytes) → Answer Spot
place_walked v path = settle (path_line path ∷ []) refused (walked_answer (located v (path_of path)))

module _ (w : Version) where
  -- the numbers of the version for an image, as its tree has them
  abbrev pub numbers_on : Bytes → Numbers
  numbers_on b = w.numbers (w.see b).pages (w.code_in b)

  -- the lines that stand above the walk: those of the image, and 4
  abbrev pub first_lines : Bytes → (path : Bytes) → List Line
  first_lines b path = image_lines w b ++ (path_line path ∷ [])

  unfoldable pub placed : Bytes → (path : Bytes) → Answer Spot
  placed b path = settle (first_lines b path) refused (walked_answer (located (w.see b) (path_of path)))
