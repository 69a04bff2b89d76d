-- Document 01, "The numbers that say no", on the plain tree of version 1: `RefusalOf` says the lines of any version, these are version 1's.
use Rattle.std.specs.Prelude.{ℕ, List}
use Rattle.volume.specs.Bytes.{Bytes}
use Rattle.model.specs.Tree.{Tree}
use Rattle.model.specs.Call.{Call}
use Rattle.model.specs.Version.{v1}
use Rattle.model.specs.RefusalOf as Of
unfoldable pub use Rattle.model.specs.RefusalOf.{is_missing, is_blocked, stopped_at, is_there, is_directory_node, is_locked_node, content_in, row_in, settle}
pub use Rattle.model.specs.RefusalOf.{walked, node, walked_parent, parent_row, walked_directory, directory_row, size, Line, Passes, buffer_lines, buffer_numbers, path_line, root_line, walk_lines, directory_line, lock_line, past_line}

-- the pages that a call needs ("Lists of calls, and the replay")
abbrev pub wanted : Call → Tree → ℕ
wanted c t = Of.wanted v1 c t

-- the lines: 4, 11, 5, 6, 8 and 9 of a make; those of a call above number 10; 10; those below; all
abbrev pub make_lines : (path date : Bytes) → Tree → List Line
make_lines path date t = Of.make_lines v1 path date t

abbrev pub earlier : Call → Tree → List Line
earlier c t = Of.earlier v1 c t

abbrev pub space_line : Call → Tree → Line
space_line c t = Of.space_line v1 c t

abbrev pub later : Call → Tree → List Line
later c t = Of.later v1 c t

abbrev pub refusals : Call → Tree → List Line
refusals c t = Of.refusals v1 c t

-- the paper's table from the top down, the table of a call, and the numbers that a call can give on a sound image
abbrev pub table_order : List ℕ
table_order = Of.table_order v1

abbrev pub table_of : Call → List ℕ
table_of c = Of.table_of v1 c

abbrev pub own_numbers : Call → List ℕ
own_numbers c = Of.own_numbers v1 c
