-- Paper 02 §4: the first bad row of a file that is read, and of a list that is written. In a row 21 stands before 22.
use Rattle.std.specs.Prelude.{ℕ, zero, suc, ◌+◌, ◌-◌, Bool, true, List, [], ◌∷◌, length, eqb, if◌then◌else◌}
use Rattle.std.proofs.Math.Option.{Option, none, some}
use Rattle.volume.specs.Bytes.{Bytes}
use Rattle.model.specs.Call.{Refusal, refusal_at}
use Rattle.link_list.specs.declared.Row.{Row}
use Rattle.link_list.specs.Coding.{Taken, in_range, take_row, above}

-- a row is above the one before it, if there is one
unfoldable pub follows : Option Row → Row → Bool
follows none r = true
follows (some low) r = above low r

-- ---- a file that is read: its rows, or 21 with the byte at which the first bad row begins, or 22 with its number

pub data Reading : Type 0 where
  bad : Refusal → Reading
  rows : List Row → Reading

unfoldable pub row : Row → Reading → Reading
row r (bad f) = bad f
row r (rows rs) = rows (r ∷ rs)

-- what stands at byte `at`, as row i: 21, or 22, or the row before what `next` reads
unfoldable pub read_row : (i at : ℕ) → Option Row → (Row → Bytes → Reading) → Taken Row → Reading
read_row i at before next none = bad (refusal_at 21 at)
read_row i at before next (some t) =
    let rest = next t.0 t.1 in
    if follows before t.0 then row t.0 rest else bad (refusal_at 22 i)

-- the rest of a file from row i on: `size` is the file's. `most` counts rows down from the file's size; a row has a byte at least, so no row is
-- left when it is 0 (law `file_of_list`: what is read is the whole file).
unfoldable pub read_from : (most size i : ℕ) → Option Row → Bytes → Reading
read_from zero size i before v = rows []
read_from (suc most) size i before v =
    let next = read_row i (size - length v) before (λ r rest. read_from most size (i + 1) (some r) rest) (take_row v) in
    if eqb (length v) 0 then rows [] else next

unfoldable pub read_list : Bytes → Reading
read_list v = read_from (length v) (length v) 0 none v

-- ---- a list that is written: 21 or 22 with the row's number

unfoldable pub bad_from : (i : ℕ) → Option Row → List Row → Option Refusal
bad_from i before [] = none
bad_from i before (r ∷ rs) =
    let rest = bad_from (i + 1) (some r) rs in
    if in_range r then (if follows before r then rest else some (refusal_at 22 i)) else some (refusal_at 21 i)

unfoldable pub bad_row : List Row → Option Refusal
bad_row rs = bad_from 0 none rs
