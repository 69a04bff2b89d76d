-- The numbers that a C caller gets in the out arrays, of a model's answer. Beside a refusal they are zeros.
use Rattle.std.specs.Prelude.{ℕ, Bool, List, [], ◌∷◌, if◌then◌else◌}
use Rattle.std.proofs.Math.Option.{Option, none, some}
use Rattle.model.specs.Call.{Kind, is_file, is_directory, Verdict, Found, Listed, empty, holds, Answer, refused, granted}

unfoldable pub kind_number : Kind → ℕ
kind_number (is_file locked) = 0
kind_number is_directory = 1

-- a directory is never locked
unfoldable pub lock_number : Kind → ℕ
lock_number (is_file locked) = if locked then 1 else 0
lock_number is_directory = 0

-- what the second judge says (paper 02 §8): no refusal, and no number of the table
unfoldable pub sound_number : Bool → ℕ
sound_number says = if says then 1 else 0

-- pages, free
unfoldable pub verdict_out : Answer Verdict → List ℕ
verdict_out (refused m) = 0 ∷ 0 ∷ []
verdict_out (granted v) = v.pages ∷ v.free ∷ []

-- kind, size, locked
unfoldable pub find_out : Answer Found → List ℕ
find_out (refused m) = 0 ∷ 0 ∷ 0 ∷ []
find_out (granted found) = kind_number found.kind ∷ found.size ∷ lock_number found.kind ∷ []

-- occupied, kind, size, locked; an empty entry has none of them
unfoldable pub list_out : Answer Listed → List ℕ
list_out (refused m) = 0 ∷ 0 ∷ 0 ∷ 0 ∷ []
list_out (granted empty) = 0 ∷ 0 ∷ 0 ∷ 0 ∷ []
list_out (granted (holds kind name size date)) = 1 ∷ kind_number kind ∷ size ∷ lock_number kind ∷ []

-- the one number that a call tells: how many bytes were copied, the page that a store is for, how many rows were read (paper 02 §4)
unfoldable pub number_out : Answer ℕ → List ℕ
number_out (refused m) = 0 ∷ []
number_out (granted n) = n ∷ []

-- found, figure (paper 02 §4)
unfoldable pub figure_out : Answer (Option ℕ) → List ℕ
figure_out (refused m) = 0 ∷ 0 ∷ []
figure_out (granted none) = 0 ∷ 0 ∷ []
figure_out (granted (some figure)) = 1 ∷ figure ∷ []
