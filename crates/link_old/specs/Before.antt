-- What a writing asks before the rows (paper 02 §4): the date, the directory and the old file.
use Rattle.std.specs.Prelude.{◌≡◌, Bool, not, ◌&&◌, ◌||◌, List, [], ◌∷◌, ◌++◌, T, eqb, if◌then◌else◌, Result}
use Rattle.volume.specs.Bytes.{Bytes}
use Rattle.model.specs.Date.{good_date}
use Rattle.model.specs.Sound.{sound}
use Rattle.model.specs.Tree.{Tree}
use Rattle.model.specs.Image.{tree_of}
use Rattle.model.specs.Call.{Refusal, refusal, Answer, refused, granted}
use Rattle.model.specs.Refusal.{Line, is_there, walked_directory, path_line, walk_lines, settle}
use Rattle.model.specs.Meaning.{image_lines}
use Rattle.outcomes.specs.Answers.{answered}
use Rattle.refusals.specs.declared.Refusal.{Refusal as Base}
use Rattle.refusals.specs.Told.{told}
use Rattle.link_list.specs.Links.{links_name, node_in, is_directory_there, is_locked_there, old_lines}

-- nothing is said of the date where the image is refused: its numbers stand above 11
abbrev pub DateJudged : (b date : Bytes) → Bool → Type 0
DateJudged b date good = T (sound b) → good ≡ good_date date

-- 11 stands above 5 and 6
unfoldable pub date_first : (good : Bool) → Refusal → Refusal
date_first good f = if not good && (eqb f.number 5 || eqb f.number 6) then refusal 11 else f

-- whether there is an old file, or the base's refusal
abbrev pub old_told : Result Bool Base → Answer Bool
old_told = answered told (λ there. there)

-- 4, 5 or 6 of the directory
unfoldable pub directory_lines : Bytes → Tree → List Line
directory_lines d t = path_line d ∷ walk_lines (walked_directory d t)

-- 7 or 25 of the old file
unfoldable pub old_file : Bytes → Tree → Answer Bool
old_file d t =
    settle ((is_directory_there (node_in d links_name t), refusal 7) ∷ (is_locked_there (node_in d links_name t), refusal 25) ∷ []) refused (granted (is_there (node_in d links_name t)))

unfoldable pub old_settled : (d date b : Bytes) → Answer Bool
old_settled d date b = settle (image_lines b ++ old_lines d date (tree_of b)) refused (granted (is_there (node_in d links_name (tree_of b))))
