-- What a finding tells of a row's file (paper 02 §4), and what a checking makes of the rows from number i on and of a file's bytes.
use Rattle.std.specs.Prelude.{ℕ, Bool, true, false, List, Result, Ok, Err}
use Rattle.volume.specs.Bytes.{Bytes}
use Rattle.model.specs.Image.{tree_of}
use Rattle.model.specs.Call.{Answer, refused, granted}
use Rattle.model.specs.Refusal.{settle}
use Rattle.outcomes.specs.declared.Kind.{Kind}
use Rattle.outcomes.specs.declared.Kind.TheVariants.{File, Directory}
use Rattle.outcomes.specs.declared.Found.{Found}
use Rattle.refusals.specs.declared.Refusal.{Refusal}
use Rattle.link_list.specs.declared.Row.{Row}
use Rattle.link_list.specs.Judging.{read_list}
use Rattle.link_list.specs.Links.{rows_in, bad_line, record_lines}

-- what finding tells is a file
abbrev pub is_a_file : Kind → Bool
is_a_file (File locked) = true
is_a_file Directory = false

abbrev pub is_file_found : Result Found Refusal → Bool
is_file_found (Ok f) = is_a_file f.kind
is_file_found (Err r) = false

unfoldable pub checked_rows : (i : ℕ) (d b : Bytes) → List Row → Answer (Unit {0})
checked_rows i d b rs = settle (record_lines i d (tree_of b) rs) refused (granted tt)

unfoldable pub check_in : (v d b : Bytes) → Answer (Unit {0})
check_in v d b = settle (bad_line (read_list v)) refused (checked_rows 0 d b (rows_in (read_list v)))
