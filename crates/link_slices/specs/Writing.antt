-- The file of a list as it is put into bytes, a row at a time, and a writing by it (paper 02 §4).
use Rattle.std.specs.Prelude.{◌≡◌, ℕ, ◌+◌, ◌&&◌, List, [], ◌∷◌, length, leb, if◌then◌else◌}
use Rattle.std.proofs.Math.Option.{none}
use Rattle.volume.specs.Bytes.{Bytes, put}
use Rattle.link_list.specs.declared.Row.{Row}
use Rattle.model.specs.Call.{Answer}
use Rattle.link_list.specs.Coding.{in_range, row_bytes, file_of}
use Rattle.link_list.specs.Judging.{bad_row}
use Rattle.link_list.specs.Links.{write_links, link_answer, link_after}
use Rattle.link_judge.specs.declared.Judged.{Judged}
use Rattle.link_judge.specs.Judged.{unjudged, judged_from}
use Rattle.link_writes.specs.Writing.{StandsFor}

-- the byte behind a row at `at`, of so many bytes: all of them, if there may be no room for it, and if it may not be written
unfoldable pub packed_at : (room at : ℕ) → Row → ℕ
packed_at room at r = if in_range r && leb (at + 24) room then at + length (row_bytes r) else room

unfoldable pub packed_bytes : (at : ℕ) → Row → Bytes → Bytes
packed_bytes at r b = if in_range r && leb (at + 24) (length b) then put at (row_bytes r) b else b

-- the byte behind the rows of a list, the first of them at `at`, and the bytes
unfoldable pub packed_from : (at : ℕ) → Bytes → List Row → ℕ × Bytes
packed_from at b [] = (at, b)
packed_from at b (r ∷ rs) = packed_from (packed_at (length b) at r) (packed_bytes at r b) rs

-- of whatever list these are the judging and the file: its writing is so answered, and leaves the image so
abbrev pub WrittenFor : Judged → (v d date b : Bytes) → Answer (Unit {0}) → (b' : Bytes) → Type 0
WrittenFor judged v d date b a b' =
    (rs : List Row) → judged ≡ judged_from 0 unjudged rs → (bad_row rs ≡ none → StandsFor v (file_of rs)) → (a ≡ link_answer (write_links d date rs) b) × (b' ≡ link_after (write_links d date rs) b)
