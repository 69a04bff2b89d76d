-- What the answers of this crate say of the bytes v that were read, of a file that is judged, and of a list that is packed.
use Rattle.std.specs.Prelude.{◌≡◌, ℕ, zero, suc, ◌+◌, ◌-◌, ◌≤◌, ◌<◌, List, [], ◌∷◌, length, drop, Option, Some, None, Result, Ok, Err}
use Rattle.std.proofs.Math.Option as Model
use Rattle.std.proofs.Math.Option.{none, some}
use Rattle.volume.specs.Bytes.{Bytes, put}
use Rattle.model.specs.Call.{Answer, refused, granted}
use Rattle.link_list.specs.declared.Row.{Row}
use Rattle.link_list.specs.Coding.{Taken, take_row}
use Rattle.link_list.specs.Judging.{Reading, bad, rows}
use Rattle.link_judge.specs.declared.RowFault.{RowFault}
use Rattle.link_judge.specs.Judged.{no_row, row_refusal}
use Rattle.link_rows.specs.declared.Step.{Step}

abbrev pub row_told : Bytes → Option Step → Taken Row
row_told v (Some s) = some (s.row, drop s.next v)
row_told v None = none

abbrev pub RowFits : Bytes → Option Step → Type 0
RowFits v (Some s) = s.next ≤ length v
RowFits v None = Unit {0}

-- the row taken off the bytes from `at` on, and the byte of v at which what is left begins
unfoldable pub step_of : Bytes → (at : ℕ) → Taken Row → Step
step_of v at none = record { row = no_row; next = at }
step_of v at (some t) = record { row = t.0; next = length v - length t.1 }

unfoldable pub step_at : Bytes → (at : ℕ) → Step
step_at v at = step_of v at (take_row (drop at v))

-- so many rows of v, from byte `at` on
unfoldable pub steps_from : Bytes → (left at : ℕ) → List Row
steps_from v zero at = []
steps_from v (suc left) at = (step_at v at).row ∷ steps_from v left (step_at v at).next

-- three numbers a row
unfoldable pub numbers_of : List Row → List ℕ
numbers_of [] = []
numbers_of (r ∷ rs) = r.count ∷ r.value ∷ r.figure ∷ numbers_of rs

-- a file with i rows before what is read
unfoldable pub counted : (i : ℕ) → Reading → Answer ℕ
counted i (bad f) = refused f
counted i (rows rs) = granted (i + length rs)

abbrev pub file_told : Result ℕ RowFault → Answer ℕ
file_told (Ok n) = granted n
file_told (Err f) = refused (row_refusal f)

abbrev pub figure_told : Option ℕ → Model.Option ℕ
figure_told (Some n) = some n
figure_told None = none

-- v at the front of the bytes, if there is room for it and one row more; otherwise they may hold anything
abbrev pub Packs : (v before after : Bytes) → Option ℕ → Type 0
Packs v before after (Some n) = (n ≡ length v) × (after ≡ put 0 v before)
Packs v before after None = (length before < length v + 24) × (length after ≡ length before)
