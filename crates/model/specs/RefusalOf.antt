-- Document 01, "The numbers that say no", and paper 02 §12, on the plain tree of a version w. Each call's lines stand in the order of the paper's table, and
-- the first that holds is given. Lines 1, 2 and 26 and the faults of paper 02 §2 ask the bytes and stand in `MeaningOf`. Version 1's names are in `Refusal`.
use Rattle.std.specs.Prelude.{◌≡◌, ℕ, suc, ◌+◌, ◌-◌, ◌*◌, max, Bool, true, false, not, ◌&&◌, ◌||◌, List, [], ◌∷◌, ◌++◌, map, length, eqb, leb, ltb, if◌then◌else◌, cond}
use Rattle.std.proofs.Math.Option.{Option, none, some}
use Rattle.volume.specs.Bytes.{Bytes}
use Rattle.model.specs.Layout.{page_size}
use Rattle.model.specs.Numbers.{Numbers}
use Rattle.model.specs.Date.{good_date}
use Rattle.model.specs.Path.{path_of, is_no_path, is_root, parents, names, last_name}
use Rattle.model.specs.Tree.{Row, end, Tree, width, held, is_full, free_number_of, Node, file_node, directory_node, lookup}
use Rattle.model.specs.Walk.{Walked, arrived, missing, blocked, walk, walk_to, arrived_or}
use Rattle.model.specs.Call.{CallOf, format_as, verdict, find, list, read, make_file, make_directory, write, remove_file, remove_directory, set_lock, store_as, of_store, of_format, Refusal, refusal, refusal_at}
use Rattle.model.specs.Version.{Version, Calls}

-- ---- what the lines ask

unfoldable pub is_missing : {A : Type 0} → Walked A → Bool
is_missing (arrived x) = false
is_missing (missing i) = true
is_missing (blocked i) = false

unfoldable pub is_blocked : {A : Type 0} → Walked A → Bool
is_blocked (arrived x) = false
is_blocked (missing i) = false
is_blocked (blocked i) = true

-- the byte of the path at which a walk stopped
unfoldable pub stopped_at : {A : Type 0} → Walked A → ℕ
stopped_at (arrived x) = 0
stopped_at (missing i) = i
stopped_at (blocked i) = i

unfoldable pub is_there : Option Node → Bool
is_there none = false
is_there (some x) = true

unfoldable pub is_directory_node : Node → Bool
is_directory_node (file_node l d v) = false
is_directory_node (directory_node d r) = true

unfoldable pub is_locked_node : Node → Bool
is_locked_node (file_node l d v) = l
is_locked_node (directory_node d r) = false

-- the bytes of a file, and the row of a directory
unfoldable pub content_in : Node → Bytes
content_in (file_node l d v) = v
content_in (directory_node d r) = []

unfoldable pub row_in : Node → Row
row_in (file_node l d v) = end
row_in (directory_node d r) = r

-- where a path leads, and the row of its parent directory
abbrev pub walked : Bytes → Tree → Walked Node
walked path t = walk_to (path_of path) t.root

abbrev pub node : Bytes → Tree → Node
node path t = arrived_or (directory_node [] end) (walked path t)

abbrev pub walked_parent : Bytes → Tree → Walked Row
walked_parent path t = walk (parents (path_of path)) t.root

abbrev pub parent_row : Bytes → Tree → Row
parent_row path t = arrived_or end (walked_parent path t)

abbrev pub walked_directory : Bytes → Tree → Walked Row
walked_directory path t = walk (names (path_of path)) t.root

abbrev pub directory_row : Bytes → Tree → Row
directory_row path t = arrived_or end (walked_directory path t)

abbrev pub size : Bytes → Tree → ℕ
size path t = length (content_in (node path t))

-- ---- the lines

-- a condition, and the refusal that is given when it holds
abbrev pub Line : Type 0
Line = Bool × Refusal

-- 29: a store: the buffer isn't a page (paper 02 §11). It stands above all lines, also above those that ask the image, and so once more in front of the
-- tree's own.
abbrev pub buffer_lines : {F S : Type 0} → CallOf F S → List Line
buffer_lines c = of_store (λ c. List Line) c [] (λ has path date v k buffer. (not (eqb (length buffer) page_size), refusal 29) ∷ [])

-- 4: the path is no path
abbrev pub path_line : Bytes → Line
path_line path = (is_no_path (path_of path), refusal 4)

-- 14: a removal: the path is `/`
abbrev pub root_line : Bytes → Line
root_line path = (is_root (path_of path), refusal 14)

-- 5: a name of the walk isn't in its directory; 6: the walk, list or the removal of a directory meets a file where it needs a directory
abbrev pub walk_lines : {A : Type 0} → Walked A → List Line
walk_lines w = (is_missing w, refusal_at 5 (stopped_at w)) ∷ (is_blocked w, refusal_at 6 (stopped_at w)) ∷ []

-- 7: read, write, the removal of a file, lock or unlock: the path is a directory
abbrev pub directory_line : Bytes → Tree → Line
directory_line path t = (is_directory_node (node path t), refusal 7)

-- 25: write or the removal of a file: it is locked (paper 02 §10)
abbrev pub lock_line : Bytes → Tree → Line
lock_line path t = (is_locked_node (node path t), refusal 25)

-- 12: read or write: the position is past the size
abbrev pub past_line : Bytes → ℕ → Tree → Line
past_line path at t = (ltb (size path t) at, refusal 12)

-- 9: no empty entry; where directories grow the line is not there (paper 02 §12)
abbrev pub full_lines : Numbers → Row → List Line
full_lines n r = if n.grows then [] else ((is_full r, refusal 9) ∷ [])

-- f of the first line's refusal that holds, or x if none does: then the call is granted
unfoldable pub settle {ℓ} : {A : Type ℓ} → List Line → (Refusal → A) → A → A
settle [] f x = x
settle (l ∷ ls) f x = let rest = settle ls f x in cond l.0 (f l.1) rest

-- no line holds
abbrev pub Passes : List Line → Type 0
Passes ls = settle ls some none ≡ none

-- what a call has of numbers beside those of its version: 29 of a store
abbrev pub buffer_numbers : {F S : Type 0} → CallOf F S → List ℕ
buffer_numbers c = of_store (λ c. List ℕ) c [] (λ has path date v k buffer. 29 ∷ [])

-- ---- the lines of a version

module _ (w : Version) where
  -- the numbers of the version for a tree
  abbrev pub numbers_for : Tree → Numbers
  numbers_for t = w.numbers t.pages t.code

  -- what is asked of what format is handed, of an image of so many bytes; 26 in version 2, nothing in version 1
  abbrev pub handed_lines : Calls w → (length : ℕ) → List Line
  handed_lines c n = map (λ (x : (w.New → ℕ → Bool) × ℕ). (not (of_format c true (λ new. x.0 new n)), refusal x.1)) w.handed

  -- the pages that a make needs: those of the new entry, and one more where its directory must grow
  abbrev pub make_wants : (path : Bytes) (pages : ℕ) → Tree → ℕ
  make_wants path k t = if (numbers_for t).grows && is_full (parent_row path t) then suc k else k

  -- the pages that a call needs ("Lists of calls, and the replay")
  unfoldable pub wanted : Calls w → Tree → ℕ
  wanted (format_as new) t = 0
  wanted verdict t = 0
  wanted (find path) t = 0
  wanted (list path i) t = 0
  wanted (read path at buffer) t = 0
  wanted (make_file path date) t = make_wants path ((numbers_for t).pages_for 0) t
  wanted (make_directory path date) t = make_wants path 1 t
  wanted (write path at v) t = (numbers_for t).pages_for (max (size path t) (at + length v)) - (numbers_for t).pages_for (size path t)
  wanted (remove_file path) t = 0
  wanted (remove_directory path) t = 0
  wanted (set_lock locked path) t = 0
  wanted (store_as has path date v k buffer) t = (numbers_for t).pages_for (length v)

  -- 11: the date is not good; then the walk of all names but the last; 8: the name is there already, or the path is `/`; 9
  unfoldable pub make_lines : Bytes → Bytes → Tree → List Line
  make_lines path date t =
      path_line path
      ∷ (not (good_date date), refusal 11)
      ∷ walk_lines (walked_parent path t) ++ (
      (is_root (path_of path) || is_there (lookup (last_name (path_of path)) (parent_row path t)), refusal 8)
      ∷ full_lines (numbers_for t) (parent_row path t))

  -- the lines above number 10; 12 of list: the entry number is past the directory's last
  unfoldable pub earlier : Calls w → Tree → List Line
  earlier (format_as new) t = handed_lines (format_as new) (t.pages * (numbers_for t).page_size)
  earlier verdict t = []
  earlier (find path) t = path_line path ∷ walk_lines (walked path t)
  earlier (list path i) t = path_line path ∷ walk_lines (walked_directory path t) ++ ((leb (width (directory_row path t)) i, refusal 12) ∷ [])
  earlier (read path at buffer) t = path_line path ∷ walk_lines (walked path t) ++ (directory_line path t ∷ past_line path at t ∷ [])
  earlier (make_file path date) t = make_lines path date t
  earlier (make_directory path date) t = make_lines path date t
  earlier (write path at v) t = path_line path ∷ walk_lines (walked path t) ++ (directory_line path t ∷ lock_line path t ∷ past_line path at t ∷ [])
  earlier (remove_file path) t = path_line path ∷ root_line path ∷ walk_lines (walked path t) ++ (directory_line path t ∷ lock_line path t ∷ [])
  earlier (remove_directory path) t = path_line path ∷ root_line path ∷ walk_lines (walked_directory path t)
  earlier (set_lock locked path) t = path_line path ∷ walk_lines (walked path t) ++ (directory_line path t ∷ [])
  earlier (store_as has path date v k buffer) t = buffer_lines {F = w.New} (store_as has path date v k buffer) ++ make_lines path date t

  -- the free number of the tree
  abbrev pub free_in : Tree → ℕ
  free_in t = free_number_of (numbers_for t) t

  -- 10: more pages wanted than the free number; a call that needs none never gets it
  abbrev pub space_line : Calls w → Tree → Line
  space_line c t = (ltb (free_in t) (wanted c t), refusal 10)

  -- the line below number 10; 13: the removal of a directory: it holds something; 12 of a store: its number is past the last
  unfoldable pub later : Calls w → Tree → List Line
  later (format_as new) t = []
  later verdict t = []
  later (find path) t = []
  later (list path i) t = []
  later (read path at buffer) t = []
  later (make_file path date) t = []
  later (make_directory path date) t = []
  later (write path at v) t = []
  later (remove_file path) t = []
  later (remove_directory path) t = (ltb 0 (held (directory_row path t)), refusal 13) ∷ []
  later (set_lock locked path) t = []
  later (store_as has path date v k buffer) t = (leb (w.store_count has (path_of path) v) k, refusal 12) ∷ []

  unfoldable pub refusals : Calls w → Tree → List Line
  refusals c t = earlier c t ++ (space_line c t ∷ later c t)

  -- ---- numbers

  -- those that the header is asked with: 2, in version 2 then 26; and those of what format is handed
  abbrev pub header_numbers : List ℕ
  header_numbers = map (λ (x : (Bytes → Bool) × ℕ). x.1) w.header

  abbrev pub handed_numbers : List ℕ
  handed_numbers = map (λ (x : (w.New → ℕ → Bool) × ℕ). x.1) w.handed

  -- the paper's table from the top down; where 3 stood stand the faults of paper 02 §2, in the order told, and 15 is gone (paper 02 §9)
  unfoldable pub table_order : List ℕ
  table_order = 1 ∷ header_numbers ++ (16 ∷ 17 ∷ 18 ∷ 20 ∷ 19 ∷ 3 ∷ 4 ∷ 11 ∷ 14 ∷ 5 ∷ 6 ∷ 8 ∷ 7 ∷ 25 ∷ 12 ∷ w.full_numbers ++ (10 ∷ 13 ∷ []))

  -- the table of a call; a store has 29 before 1, and 12 after 10 (paper 02 §11)
  abbrev pub table_of : Calls w → List ℕ
  table_of c = of_store (λ c. List ℕ) c table_order (λ has path date v k buffer.
      29 ∷ 1 ∷ header_numbers ++ (16 ∷ 17 ∷ 18 ∷ 20 ∷ 19 ∷ 3 ∷ 4 ∷ 11 ∷ 5 ∷ 6 ∷ 8 ∷ w.full_numbers ++ (10 ∷ 12 ∷ [])))

  -- The numbers that a call can give on a sound image, in the order of its lines but for 29. Number 10 is one of them where the call may need pages. (Law
  -- `own_numbers_lem`: the lines have these numbers in this order, and the numbers rise in the call's table.)
  unfoldable pub own_numbers : Calls w → List ℕ
  own_numbers (format_as new) = handed_numbers
  own_numbers verdict = []
  own_numbers (find path) = 4 ∷ 5 ∷ 6 ∷ []
  own_numbers (list path i) = 4 ∷ 5 ∷ 6 ∷ 12 ∷ []
  own_numbers (read path at buffer) = 4 ∷ 5 ∷ 6 ∷ 7 ∷ 12 ∷ []
  own_numbers (make_file path date) = 4 ∷ 11 ∷ 5 ∷ 6 ∷ 8 ∷ w.full_numbers ++ (10 ∷ [])
  own_numbers (make_directory path date) = 4 ∷ 11 ∷ 5 ∷ 6 ∷ 8 ∷ w.full_numbers ++ (10 ∷ [])
  own_numbers (write path at v) = 4 ∷ 5 ∷ 6 ∷ 7 ∷ 25 ∷ 12 ∷ 10 ∷ []
  own_numbers (remove_file path) = 4 ∷ 14 ∷ 5 ∷ 6 ∷ 7 ∷ 25 ∷ []
  own_numbers (remove_directory path) = 4 ∷ 14 ∷ 5 ∷ 6 ∷ 13 ∷ []
  own_numbers (set_lock locked path) = 4 ∷ 5 ∷ 6 ∷ 7 ∷ []
  own_numbers (store_as has path date v k buffer) = 4 ∷ 11 ∷ 5 ∷ 6 ∷ 8 ∷ w.full_numbers ++ (10 ∷ 12 ∷ [])
