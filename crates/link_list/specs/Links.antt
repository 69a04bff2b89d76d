-- Paper 02 §4: the calls on the file LINKS of a directory, what each answers and what it does, on the plain tree and on the bytes of any image.
-- The base's refusals are the base's own lines.
use Rattle.std.specs.Prelude.{ℕ, zero, suc, ◌+◌, Bool, true, false, not, ◌&&◌, List, [], ◌∷◌, ◌++◌, length, drop, eqb, ltb, if◌then◌else◌}
use Rattle.std.proofs.Math.Option.{Option, none, some}
use Rattle.volume.specs.Bytes.{Bytes}
use Rattle.model.specs.Date.{good_date}
use Rattle.model.specs.Name.{padded}
use Rattle.model.specs.Tree.{Tree, Node, lookup}
use Rattle.model.specs.Image.{tree_of}
use Rattle.model.specs.Text.{text}
use Rattle.model.specs.Call.{Call, make_file, write, remove_file, Refusal, refusal, refusal_at, Answer, refused, granted}
use Rattle.model.specs.Refusal.{Line, is_there, is_directory_node, is_locked_node, content_in, node, walked, walked_directory, directory_row, path_line, walk_lines, directory_line, refusals, settle}
use Rattle.model.specs.Meaning.{image_lines, tree_after, after}
use Rattle.model.specs.Demands.{replay}
use Rattle.family.specs.Family.{onward}
use Rattle.link_list.specs.declared.Row.{Row}
use Rattle.link_list.specs.Coding.{file_of, accession}
use Rattle.link_list.specs.Judging.{Reading, bad, rows, read_list, bad_row}

-- ---- the calls. A directory is named by its path. A reading's last argument is what the lent list holds beforehand.

pub data LinkCall : Type 0 where
  read_links : (directory : Bytes) (list : List Row) → LinkCall
  write_links : (directory date : Bytes) (list : List Row) → LinkCall
  find_link : (directory : Bytes) (count value : ℕ) → LinkCall
  check_links : (directory : Bytes) → LinkCall

-- a reading tells how many rows there are, a finding the figure of the accession, or none
abbrev pub LinkTold : LinkCall → Type 0
LinkTold (read_links d list) = ℕ
LinkTold (write_links d date list) = Unit {0}
LinkTold (find_link d count value) = Option ℕ
LinkTold (check_links d) = Unit {0}

-- the lent list before the call; only a reading has one
abbrev pub list_before : LinkCall → List Row
list_before (read_links d list) = list
list_before (write_links d date list) = []
list_before (find_link d count value) = []
list_before (check_links d) = []

-- ---- the file

abbrev pub links_name : Bytes
links_name = text "LINKS"

-- the path of the file LINKS in the directory of this path
abbrev pub links_path : Bytes → Bytes
links_path d = onward d links_name

-- what its bytes say
abbrev pub reading : Bytes → Tree → Reading
reading d t = read_list (content_in (node (links_path d) t))

unfoldable pub rows_in : Reading → List Row
rows_in (bad f) = []
rows_in (rows rs) = rs

-- the node of that name in the directory
abbrev pub node_in : Bytes → Bytes → Tree → Option Node
node_in d name t = lookup (padded name) (directory_row d t)

unfoldable pub is_file_there : Option Node → Bool
is_file_there none = false
is_file_there (some x) = not (is_directory_node x)

unfoldable pub is_directory_there : Option Node → Bool
is_directory_there none = false
is_directory_there (some x) = is_directory_node x

unfoldable pub is_locked_there : Option Node → Bool
is_locked_there none = false
is_locked_there (some x) = is_locked_node x

-- ---- reading, finding and checking judge the whole file first

-- 4 of the directory's path; 5, 6 and 7 of the file's; then 21 or 22
unfoldable pub file_lines : Bytes → Tree → List Line
file_lines d t = path_line d ∷ walk_lines (walked (links_path d) t) ++ (directory_line (links_path d) t ∷ [])

unfoldable pub bad_line : Reading → List Line
bad_line (bad f) = (true, f) ∷ []
bad_line (rows rs) = []

unfoldable pub judged_lines : Bytes → Tree → List Line
judged_lines d t = file_lines d t ++ bad_line (reading d t)

-- 24: the list is too short for the rows
abbrev pub short_line : (list rs : List Row) → Line
short_line list rs = (ltb (length list) (length rs), refusal 24)

-- 23: the row, of number i, names no file of the directory by its exact digits
unfoldable pub record_lines : (i : ℕ) (d : Bytes) → Tree → List Row → List Line
record_lines i d t [] = []
record_lines i d t (r ∷ rs) = (not (is_file_there (node_in d (accession r.count r.value) t)), refusal_at 23 i) ∷ record_lines (i + 1) d t rs

abbrev pub is_accession : (count value : ℕ) → Row → Bool
is_accession count value r = eqb r.count count && eqb r.value value

-- the figure of an accession, if a row has it
unfoldable pub figure_of : (count value : ℕ) → List Row → Option ℕ
figure_of count value [] = none
figure_of count value (r ∷ rs) =
    let rest = figure_of count value rs in
    if is_accession count value r then some r.figure else rest

-- ---- writing: any old LINKS is removed, and it is made anew with its content

unfoldable pub removal : Bytes → Tree → List Call
removal d t = if is_there (node_in d links_name t) then remove_file (links_path d) ∷ [] else []

unfoldable pub writing : (d date : Bytes) → List Row → Tree → List Call
writing d date rs t = removal d t ++ (make_file (links_path d) date ∷ write (links_path d) 0 (file_of rs) ∷ [])

-- 21 or 22, by the row's number
unfoldable pub bad_row_line : Option Refusal → List Line
bad_row_line none = []
bad_row_line (some f) = (true, f) ∷ []

-- 9 and 10: those of the make and the write, with the old file removed
unfoldable pub room_lines : (d date : Bytes) → List Row → Tree → List Line
room_lines d date rs t =
    let cleared = replay (removal d t) t in
    refusals (make_file (links_path d) date) cleared
    ++ refusals (write (links_path d) 0 (file_of rs)) (tree_after (make_file (links_path d) date) cleared)

-- 7: a directory has that name; 25: the old file is locked (paper 02 §10)
unfoldable pub old_lines : (d date : Bytes) → Tree → List Line
old_lines d date t =
    path_line d
    ∷ (not (good_date date), refusal 11)
    ∷ walk_lines (walked_directory d t)
    ++ ((is_directory_there (node_in d links_name t), refusal 7) ∷ (is_locked_there (node_in d links_name t), refusal 25) ∷ [])

-- ---- the four calls on the plain tree

unfoldable pub link_lines : LinkCall → Tree → List Line
link_lines (read_links d list) t = judged_lines d t ++ (short_line list (rows_in (reading d t)) ∷ [])
link_lines (write_links d date list) t = old_lines d date t ++ (bad_row_line (bad_row list) ++ room_lines d date list t)
link_lines (find_link d count value) t = judged_lines d t
link_lines (check_links d) t = judged_lines d t ++ record_lines 0 d t (rows_in (reading d t))

unfoldable pub link_told : (c : LinkCall) → Tree → LinkTold c
link_told (read_links d list) t = length (rows_in (reading d t))
link_told (write_links d date list) t = tt
link_told (find_link d count value) t = figure_of count value (rows_in (reading d t))
link_told (check_links d) t = tt

-- the list after a granted call: past the rows it stays
unfoldable pub list_filled : LinkCall → Tree → List Row
list_filled (read_links d list) t = rows_in (reading d t) ++ drop (length (rows_in (reading d t))) list
list_filled (write_links d date list) t = []
list_filled (find_link d count value) t = []
list_filled (check_links d) t = []

-- the base's calls that a granted call is, in turn; those that only look change nothing
unfoldable pub turns_of : LinkCall → Tree → List Call
turns_of (read_links d list) t = []
turns_of (write_links d date list) t = writing d date list t
turns_of (find_link d count value) t = []
turns_of (check_links d) t = []

unfoldable pub tree_link_answer : (c : LinkCall) → Tree → Answer (LinkTold c)
tree_link_answer c t = settle (link_lines c t) refused (granted (link_told c t))

unfoldable pub tree_link_list : LinkCall → Tree → List Row
tree_link_list c t = settle (link_lines c t) (λ f. list_before c) (list_filled c t)

-- for demand 3: a granted writing is its removal, make and write in turn, and a refused one none of them
unfoldable pub link_turns : LinkCall → Tree → List Call
link_turns c t = settle (link_lines c t) (λ f. []) (turns_of c t)

-- ---- on the bytes of an image, which every call judges first

unfoldable pub link_answer : (c : LinkCall) → Bytes → Answer (LinkTold c)
link_answer c b = settle (image_lines b ++ link_lines c (tree_of b)) refused (granted (link_told c (tree_of b)))

unfoldable pub link_list : LinkCall → Bytes → List Row
link_list c b = settle (image_lines b ++ link_lines c (tree_of b)) (λ f. list_before c) (list_filled c (tree_of b))

-- each call gets the image as the last one left it
unfoldable pub run_after : List Call → Bytes → Bytes
run_after [] b = b
run_after (c ∷ cs) b = run_after cs (after c b)

unfoldable pub link_after : LinkCall → Bytes → Bytes
link_after c b = settle (image_lines b ++ link_lines c (tree_of b)) (λ f. b) (run_after (turns_of c (tree_of b)) b)
