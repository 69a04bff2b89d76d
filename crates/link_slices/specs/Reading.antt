-- What the parts of a reading answer, for any list that it may be lent (paper 02 §4).
use Rattle.std.specs.Prelude.{◌≡◌, ℕ, ◌≤◌, List, [], ◌∷◌, ◌++◌, length, take, drop, Result, Ok, Err}
use Rattle.volume.specs.Bytes.{Bytes}
use Rattle.model.specs.Call.{Answer, refused, granted}
use Rattle.model.specs.Refusal.{settle}
use Rattle.link_list.specs.declared.Row.{Row}
use Rattle.link_list.specs.Judging.{read_list}
use Rattle.link_list.specs.Links.{read_links, rows_in, bad_line, short_line, link_answer, link_list}
use Rattle.link_rows.specs.Told.{steps_from}
use Rattle.link_answers.specs.declared.LinkRefusal.{LinkRefusal}
use Rattle.link_answers.specs.Answers.{link_refusal, read_told}
use Rattle.link_slices.specs.declared.Found.{Found}

-- so many rows of v at the front of a list, and past them the list itself
unfoldable pub placed : Bytes → (count : ℕ) → List Row → List Row
placed v count list = steps_from v count 0 ++ drop count list

-- what a reading makes of the bytes
unfoldable pub rows_read : Bytes → List Row → Answer ℕ
rows_read v list = settle (bad_line (read_list v) ++ (short_line list (rows_in (read_list v)) ∷ [])) refused (granted (length (rows_in (read_list v))))

unfoldable pub list_read : Bytes → List Row → List Row
list_read v list =
    settle (bad_line (read_list v) ++ (short_line list (rows_in (read_list v)) ∷ [])) (λ f. list) (rows_in (read_list v) ++ drop (length (rows_in (read_list v))) list)

-- the list after a reading that found so many rows in v, or is refused
abbrev pub placed_by : Bytes → Result ℕ LinkRefusal → List Row → List Row
placed_by v (Ok n) list = placed v n list
placed_by v (Err r) list = list

abbrev pub Few : (room : ℕ) → Result ℕ LinkRefusal → Type 0
Few room (Ok n) = n ≤ room
Few room (Err r) = Unit {0}

-- what is found in the bytes is right for every list of so many rows
pub record FoundIn (v : Bytes) (room : ℕ) (r : Result ℕ LinkRefusal) : Type 0 where
  pub few : Few room r
  pub right : (list : List Row) → length list ≡ room → (read_told r ≡ rows_read v list) × (placed_by v r list ≡ list_read v list)

-- and what is found in a directory, with the bytes that were loaded
pub record FoundRows (d b : Bytes) (room : ℕ) (file : Bytes) (f : Found) : Type 0 where
  pub inside : f.size ≤ length file
  pub few : f.count ≤ room
  pub right : (list : List Row) → length list ≡ room
      → (granted f.count ≡ link_answer (read_links d list) b) × (placed (take f.size file) f.count list ≡ link_list (read_links d list) b)

abbrev pub FoundFor : (d b : Bytes) → (room : ℕ) → (file : Bytes) → Result Found LinkRefusal → Type 0
FoundFor d b room file (Ok f) = FoundRows d b room file f
FoundFor d b room file (Err r) = (list : List Row) → length list ≡ room → (refused (link_refusal r) ≡ link_answer (read_links d list) b) × (list ≡ link_list (read_links d list) b)
