-- Document 01, "The plain tree" and "The numbers that say no", and paper 02 §2 and §12: what each call of a version w answers and does, on the plain tree and
-- on the bytes of any image. Version 1's names, which its public contracts cite, are in `Meaning`.
use Rattle.std.specs.Prelude.{ℕ, zero, suc, Bool, true, false, not, List, [], ◌∷◌, ◌++◌, map, length, take, drop, if◌then◌else◌}
use Rattle.volume.specs.Bytes.{Bytes, put}
use Rattle.model.specs.Numbers.{Numbers}
use Rattle.model.specs.Sound.{sound_by}
use Rattle.model.specs.Judge.{Fault, bad_entry, bad_chain, owned_twice, marked_free, lost_page, bad_count, Judged, fault, clean, judge_view}
use Rattle.model.specs.Tree.{Row, end, free, file, dir, Tree, empty_row, Node, file_node, directory_node, placed, rewrite, relock, vacate}
use Rattle.model.specs.Path.{Path, path_of, parents, last_name}
use Rattle.model.specs.Image.{tree_in}
use Rattle.model.specs.Walk.{change_at}
use Rattle.model.specs.EffectOf.{file_made, directory_made, written, removed, relocked}
use Rattle.model.specs.Call.{CallOf, format_as, verdict, find, list, read, make_file, make_directory, write, remove_file, remove_directory, set_lock, store_as, of_store, is_file, is_directory, Found, Listed, empty, holds, Told, buffer_before, Refusal, refusal, refusal_at, Answer, refused, granted}
use Rattle.model.specs.Version.{Version, Calls}
use Rattle.model.specs.RefusalOf.{Line, settle, node, directory_row, content_in, buffer_lines, buffer_numbers, numbers_for, free_in, handed_lines, refusals, header_numbers, handed_numbers, own_numbers}

-- ---- on the plain tree

-- kind, size and date; a directory's size is that of a page
unfoldable pub found_at : (page_size : ℕ) → Node → Found
found_at z (file_node locked date v) = record { kind = is_file locked; size = length v; date = date }
found_at z (directory_node date r) = record { kind = is_directory; size = z; date = date }

-- entry i of a row
unfoldable pub listed : (page_size : ℕ) → Row → ℕ → Listed
listed z end i = empty
listed z (free r) zero = empty
listed z (free r) (suc i) = listed z r i
listed z (file l n d v r) zero = holds (is_file l) n (length v) d
listed z (file l n d v r) (suc i) = listed z r i
listed z (dir n d s r) zero = holds is_directory n z d
listed z (dir n d s r) (suc i) = listed z r i

-- the bytes that a read at a position copies: as many as there are and as the buffer has room for
abbrev pub copied : Bytes → (position : ℕ) → (buffer : Bytes) → Bytes
copied v at buffer = take (length buffer) (drop at v)

-- f done to the row of the parent directory
unfoldable pub in_parent : Path → (Row → Row) → Tree → Tree
in_parent path f t = record { pages = t.pages; code = t.code; root = change_at (parents path) f t.root }

-- What the tree decides of an answer, and of a buffer: all of it, but not the page of a granted store nor what its buffer holds.
unfoldable pub without_page : Answer ℕ → Answer ℕ
without_page (refused f) = refused f
without_page (granted p) = granted 0

abbrev pub shown : {F S : Type 0} (c : CallOf F S) → Answer (Told c) → Answer (Told c)
shown c a = of_store (λ c. Answer (Told c) → Answer (Told c)) c (λ a. a) (λ has path date v k buffer a. without_page a) a

abbrev pub lent_shown : {F S : Type 0} → CallOf F S → Bytes → Bytes
lent_shown c x = of_store (λ c. Bytes) c x (λ has path date v k buffer. [])

unfoldable pub is_format : {F S : Type 0} → CallOf F S → Bool
is_format (format_as new) = true
is_format verdict = false
is_format (find path) = false
is_format (list path i) = false
is_format (read path at room) = false
is_format (make_file path date) = false
is_format (make_directory path date) = false
is_format (write path at v) = false
is_format (remove_file path) = false
is_format (remove_directory path) = false
is_format (set_lock locked path) = false
is_format (store_as has path date v k buffer) = false

-- 16 bad entry (directory page, entry); 17 page out of range, or chain not ending where the size says (directory page, entry, how many of its
-- pages passed); 18 page owned twice, 20 owned page marked free, 19 lost page (the page); 3 bit 0 or byte 3
abbrev pub fault_told : Fault → Refusal
fault_told (bad_entry d i) = record { number = 16; place = (d, i, 0) }
fault_told (bad_chain d i passed) = record { number = 17; place = (d, i, passed) }
fault_told (owned_twice p) = refusal_at 18 p
fault_told (marked_free p) = refusal_at 20 p
fault_told (lost_page p) = refusal_at 19 p
fault_told bad_count = refusal 3

-- the first fault; where there is none the image is sound (law `judge_sound`), and this is never asked
abbrev pub first_fault : Judged → Refusal
first_fault (fault f) = fault_told f
first_fault (clean marks) = refusal 3

-- ---- what a version's calls answer and do

module _ (w : Version) where
  -- what a granted call tells; the page of a store is not in the tree, and 0 stands for it here
  unfoldable pub told : (c : Calls w) → Tree → Told c
  told (format_as new) t = tt
  told verdict t = record { pages = t.pages; free = free_in w t }
  told (find path) t = found_at (numbers_for w t).page_size (node path t)
  told (list path i) t = listed (numbers_for w t).page_size (directory_row path t) i
  told (read path at room) t = length (copied (content_in (node path t)) at room)
  told (make_file path date) t = tt
  told (make_directory path date) t = tt
  told (write path at v) t = tt
  told (remove_file path) t = tt
  told (remove_directory path) t = tt
  told (set_lock locked path) t = tt
  told (store_as has path date v k buffer) t = 0

  -- the lent buffer after a granted call; past what a read copied it stays; what a store puts there is not in the tree
  unfoldable pub filled : Calls w → Tree → Bytes
  filled (format_as new) t = []
  filled verdict t = []
  filled (find path) t = []
  filled (list path i) t = []
  filled (read path at room) t = put 0 (copied (content_in (node path t)) at room) room
  filled (make_file path date) t = []
  filled (make_directory path date) t = []
  filled (write path at v) t = []
  filled (remove_file path) t = []
  filled (remove_directory path) t = []
  filled (set_lock locked path) t = []
  filled (store_as has path date v k buffer) t = []

  abbrev pub fresh_tree : (pages code : ℕ) → Tree
  fresh_tree n k = record { pages = n; code = k; root = empty_row (w.numbers n k).root_entries }

  -- the tree after a granted call; no call changes the image's length, so N stays but where format changes the size of a page
  unfoldable pub changed : Calls w → Tree → Tree
  changed (format_as new) t = fresh_tree (w.pages_after new t.pages t.code) (w.code_after new)
  changed verdict t = t
  changed (find path) t = t
  changed (list path i) t = t
  changed (read path at room) t = t
  changed (make_file path date) t = in_parent (path_of path) (placed (numbers_for w t) (file false (last_name (path_of path)) date [])) t
  changed (make_directory path date) t = in_parent (path_of path) (placed (numbers_for w t) (dir (last_name (path_of path)) date (empty_row (numbers_for w t).page_entries))) t
  changed (write path at v) t = in_parent (path_of path) (rewrite (last_name (path_of path)) (put at v (content_in (node path t)))) t
  changed (remove_file path) t = in_parent (path_of path) (vacate (last_name (path_of path))) t
  changed (remove_directory path) t = in_parent (path_of path) (vacate (last_name (path_of path))) t
  changed (set_lock locked path) t = in_parent (path_of path) (relock (last_name (path_of path)) locked) t
  changed (store_as has path date v k buffer) t = t

  unfoldable pub tree_answer : (c : Calls w) → Tree → Answer (Told c)
  tree_answer c t = settle (refusals w c t) refused (granted (told c t))

  unfoldable pub tree_buffer : Calls w → Tree → Bytes
  tree_buffer c t = settle (refusals w c t) (λ f. lent_shown c (buffer_before c)) (filled c t)

  unfoldable pub tree_after : Calls w → Tree → Tree
  tree_after c t = settle (refusals w c t) (λ f. t) (changed c t)

  -- ---- on the bytes of an image

  -- what the bytes mean
  abbrev pub tree_of : Bytes → Tree
  tree_of b = tree_in (w.code_in b) (w.see b)

  -- its length, its header and the facts of its view
  abbrev pub sound : Bytes → Bool
  sound b = sound_by (w.see b) (w.see b).pages (w.valid_length (length b) ∷ map (λ (x : (Bytes → Bool) × ℕ). x.0 b) w.header)

  -- the line where 3 stood
  abbrev pub sound_line : Bytes → Line
  sound_line b = (not (sound b), first_fault (judge_view (w.see b)))

  -- 1, its length is not one of the allowed; 2 and 26, the header is wrong
  abbrev pub length_line : Bytes → Line
  length_line b = (not (w.valid_length (length b)), refusal 1)

  abbrev pub header_lines : Bytes → List Line
  header_lines b = map (λ (x : (Bytes → Bool) × ℕ). (not (x.0 b), refusal x.1)) w.header

  -- what stands above the lines of a call that judges the image
  abbrev pub image_lines : Bytes → List Line
  image_lines b = length_line b ∷ header_lines b ++ (sound_line b ∷ [])

  -- Above all stands what a store asks of its buffer. Format judges only the image's length and what it is handed. Every other call judges the image first:
  -- its length, its header, then its first fault, if it is not sound.
  unfoldable pub lines : Calls w → Bytes → List Line
  lines c b =
      buffer_lines c ++ (
      length_line b
      ∷ (if is_format c then handed_lines w c (length b) else (
      header_lines b ++ (
      sound_line b
      ∷ refusals w c (tree_of b)))))

  -- the numbers that a call can give on any image; the faults stand where 3 stood, in the order told
  unfoldable pub numbers : Calls w → List ℕ
  numbers c = buffer_numbers c ++ (1 ∷ (if is_format c then handed_numbers w else (header_numbers w ++ (16 ∷ 17 ∷ 18 ∷ 20 ∷ 19 ∷ 3 ∷ own_numbers w c))))

  -- the bytes after a granted call
  unfoldable pub effect : Calls w → Bytes → Bytes
  effect (format_as new) b = w.formatted new b
  effect verdict b = b
  effect (find path) b = b
  effect (list path i) b = b
  effect (read path at room) b = b
  effect (make_file path date) b = file_made w.entry w.see (path_of path) date b
  effect (make_directory path date) b = directory_made w.entry w.see (path_of path) date b
  effect (write path at v) b = written w.entry w.see (path_of path) at v b
  effect (remove_file path) b = removed w.see (path_of path) b
  effect (remove_directory path) b = removed w.see (path_of path) b
  effect (set_lock locked path) b = relocked w.see (path_of path) locked b
  effect (store_as has path date v k buffer) b = b

  -- what a granted call tells, and the lent buffer after it: as the tree says, but for a store its page and the bytes of that
  abbrev pub told_on : (c : Calls w) → Bytes → Told c
  told_on c b = of_store Told c (told c (tree_of b)) (λ has path date v k buffer. (w.store_at has k (path_of path) date v b).page)

  abbrev pub filled_on : Calls w → Bytes → Bytes
  filled_on c b = of_store (λ c. Bytes) c (filled c (tree_of b)) (λ has path date v k buffer. (w.store_at has k (path_of path) date v b).bytes)

  -- what call c answers on image b, what the image is after it, and what the lent buffer is; a refused call changes nothing
  unfoldable pub answer : (c : Calls w) → Bytes → Answer (Told c)
  answer c b = settle (lines c b) refused (granted (told_on c b))

  unfoldable pub after : Calls w → Bytes → Bytes
  after c b = settle (lines c b) (λ f. b) (effect c b)

  unfoldable pub buffer_after : Calls w → Bytes → Bytes
  buffer_after c b = settle (lines c b) (λ f. buffer_before c) (filled_on c b)
