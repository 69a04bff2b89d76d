-- The three demands of document 00, as statements about version 1's `answer`, `after` and `buffer_after`, and those of paper 02 §9 and §10. What is said of any
-- version stands in `DemandsOf`, and has its names for version 1 here. The crate `laws` proves them.
use Rattle.std.specs.Prelude.{◌≡◌, ◌↔◌, ◌≢◌, ◌⊎◌, ℕ, ◌+◌, ◌/◌, ◌≤◌, ◌<◌, Bool, false, not, List, [], ◌∷◌, length, T, eqb, if◌then◌else◌}
use Rattle.std.proofs.Math.Option.{some}
use Rattle.volume.specs.Bytes.{Bytes, byte_at, same}
use Rattle.volume.specs.Lists.{all, member}
use Rattle.volume.specs.Chain.{chain, beyond}
use Rattle.model.specs.Layout.{page_size, page_count, pages_for, valid_length, valid_header, free_count, page_bit, zero_bits, link}
use Rattle.model.specs.Entry.{a_file, a_directory, entry_at, occupied, name_at}
use Rattle.model.specs.Sound.{in_range, sound, reached_entries, owners}
use Rattle.model.specs.Judge.{Fault, fault, judge, is_clean}
use Rattle.model.specs.Tree.{Row, Tree, needs, free_number, file_node, directory_node, end, free, file, dir, Node, lookup}
use Rattle.model.specs.Path.{Path, is_root, path_of}
use Rattle.model.specs.Image.{content_of, tree_of}
use Rattle.model.specs.Walk.{arrived, walk_to, entry_position, entry_named}
use Rattle.model.specs.Call.{Call, format, verdict, set_lock, store, Told, buffer_before, Refusal, refusal, Answer, refused, granted, find, Found}
use Rattle.model.specs.Name.{legal_text, padded}
use Rattle.model.specs.Version1.{view}
use Rattle.model.specs.Refusal.{buffer_lines, Passes}
use Rattle.model.specs.Version.{v1}
use Rattle.model.specs.DemandsOf as Of
pub use Rattle.model.specs.DemandsOf.{is_free, is_owned}
use Rattle.model.specs.Meaning.{fresh_tree, fault_told, is_format, answer, after}
use Rattle.model.specs.Touched.{moved, touched}

-- ---- Demand 1: any input, an answer; a refusal has a number that this call can give and changes nothing.
-- (That there is always an answer is the type of `answer`, which has no condition.)

abbrev pub Untouched : Call → Bytes → Refusal → Type 0
Untouched c b f = Of.Untouched v1 c b f

abbrev pub Demand1 : Type 0
Demand1 = Of.Demand1 v1

-- ---- Demand 2: bytes mean a tree; an image that is not sound is refused; on a sound one each call answers, and changes tree and bytes, as the
-- plain tree does; names differ when any byte differs.

-- by any call but format, and a store only with a buffer that is a page: with 1, with 2, or with the first fault by its number and place
pub data Unsound (c : Call) (b : Bytes) : Type 0 where
  by_length : T (not (valid_length (length b))) → answer c b ≡ refused (refusal 1) → Unsound c b
  by_header : T (valid_length (length b)) → T (not (valid_header b)) → answer c b ≡ refused (refusal 2) → Unsound c b
  by_fault : T (valid_length (length b)) → T (valid_header b)
      → (f : Fault) → judge b ≡ fault f → answer c b ≡ refused (fault_told f) → Unsound c b

-- A store's page and the bytes of it are not in the tree (paper 02 §11): `answer` and `buffer_after` give them, and the tree says the rest.
abbrev pub AsTree : Call → Bytes → Type 0
AsTree c b = Of.AsTree v1 c b

-- A call changes no byte that it does not name.
pub record OnlyTouched (c : Call) (b : Bytes) : Type 0 where
  pub long : length (after c b) ≡ length b
  pub bytes : (i : ℕ) → T (not (member i (touched c b))) → byte_at (after c b) i ≡ byte_at b i
  -- a bitmap byte that changes keeps the bits of other pages
  pub bits : (p : ℕ) → p < page_count b → T (not (member p (moved c b))) → page_bit (after c b) p ≡ page_bit b p
  -- bytes 0 to 2, the bitmap past N/8 and the reserved area are kept by every call but format ("The header page")
  pub header : T (not (is_format c)) → (i : ℕ) → i < 64 → i ≢ 3 → (4 ≤ i → 4 + page_count b / 8 ≤ i) → byte_at (after c b) i ≡ byte_at b i

-- a row holds x under a name of exactly these bytes
abbrev pub HeldAs : (name : Bytes) → Node → Row → Type 0
HeldAs n x end = ⊥
HeldAs n x (free r) = HeldAs n x r
HeldAs n x (file l m d v r) = ((m ≡ n) × (file_node l d v ≡ x)) ⊎ HeldAs n x r
HeldAs n x (dir m d s r) = ((m ≡ n) × (directory_node d s ≡ x)) ⊎ HeldAs n x r

-- Names differ when any byte differs: "0042" and "42" are two names, and "/0042" and "/42" lead to two entries.
pub record ExactNames : Type 0 where
  pub apart : (n m : Bytes) → n ≢ m → same n m ≡ false
  -- padding makes no two names one
  pub padding : (v w : Bytes) → T (legal_text v) → T (legal_text w) → padded v ≡ padded w → v ≡ w
  -- what is found for a name has this name, in the tree and in the bytes
  pub in_tree : (n : Bytes) (r : Row) (x : Node) → lookup n r ≡ some x → HeldAs n x r
  pub in_bytes : (b : Bytes) (page : ℕ) (n : Bytes) (at : ℕ) → entry_named (view b) page n ≡ some at → T (occupied b at) × (name_at b at ≡ n)
  -- two paths that are found and lead to one entry are the same bytes (the root has no entry; its position is 0, where none stands)
  pub paths : (b : Bytes) → T (sound b) → (p q : Bytes) (x y : Found) → answer (find p) b ≡ granted x → answer (find q) b ≡ granted y
      → entry_position b (path_of p) ≡ entry_position b (path_of q) → p ≡ q

pub record Demand2 : Type 0 where
  -- no fault is told exactly if the image is sound (paper 02 §2)
  pub faultless : (b : Bytes) → T (valid_length (length b)) → T (valid_header b) → is_clean (judge b) ≡ sound b
  pub unsound : (c : Call) (b : Bytes) → T (not (is_format c)) → Passes (buffer_lines c) → T (not (sound b)) → Unsound c b
  -- a store whose buffer isn't a page is refused with 29, whatever the image (paper 02 §11)
  pub buffers : (path date content : Bytes) (number : ℕ) (buffer b : Bytes) → T (not (eqb (length buffer) page_size))
      → answer (store path date content number buffer) b ≡ refused (refusal 29)
  pub as_tree : (c : Call) (b : Bytes) → T (sound b) → AsTree c b
  -- format refuses exactly the lengths that are not allowed, and nothing else
  pub formats : (b : Bytes) → answer format b ≡ (if valid_length (length b) then granted tt else refused (refusal 1))
  pub fresh : (b : Bytes) → T (valid_length (length b)) → T (sound (after format b)) × (tree_of (after format b) ≡ fresh_tree (page_count b))
  pub only_touched : (c : Call) (b : Bytes) → OnlyTouched c b
  pub names : ExactNames

-- ---- Demand 3: lists of calls on one image

-- what calls gave back; one call as its public contract promises it; a list of calls that meet their contracts
abbrev pub Result : Call → Type 0
Result c = Of.Result v1 c

abbrev pub Results : List Call → Type 0
Results cs = Of.Results v1 cs

abbrev pub Promised : (c : Call) (b : Bytes) (r : Result c) (b' : Bytes) → Type 0
Promised c b r b' = Of.Promised v1 c b r b'

abbrev pub Runs : Bytes → (cs : List Call) → Results cs → Bytes → Type 0
Runs b cs rs b' = Of.Runs v1 b cs rs b'

-- The replay looks at no answer and at no byte.
abbrev pub replay : List Call → Tree → Tree
replay cs t = Of.replay v1 cs t

abbrev pub replay_results : (cs : List Call) → Tree → Results cs
replay_results cs t = Of.replay_results v1 cs t

abbrev pub shown_results : (cs : List Call) → Results cs → Results cs
shown_results cs rs = Of.shown_results v1 cs rs

abbrev pub WantOfPages : (cs : List Call) → Results cs → Tree → Type 0
WantOfPages cs rs t = Of.WantOfPages v1 cs rs t

-- each page is free or has one owner; the count of the image and of the tree; all that is demanded
abbrev pub Owned : Bytes → ℕ → Type 0
Owned b p = Of.Owned v1 b p

abbrev pub Account : Bytes → Tree → Type 0
Account b t = Of.Account v1 b t

abbrev pub Demanded : (b : Bytes) (t : Tree) (cs : List Call) (rs : Results cs) (b' : Bytes) → Type 0
Demanded b t cs rs b' = Of.Demanded v1 b t cs rs b'

-- a list starts from any sound image, or from a fresh one
pub data Starts (b : Bytes) (t : Tree) : Type 0 where
  soundly : T (sound b) → tree_of b ≡ t → Starts b t
  freshly : (old : Bytes) → T (valid_length (length old)) → b ≡ after format old → fresh_tree (page_count old) ≡ t → Starts b t

abbrev pub Demand3 : Type 0
Demand3 = (b : Bytes) (t : Tree) → Starts b t → (cs : List Call) (rs : Results cs) (b' : Bytes) → Runs b cs rs b' → Demanded b t cs rs b'

-- ---- Paper 02 §9: after the judging the walk of a chain cannot end early or leave the image, so nothing is refused with 15.

-- A chain has as many pages as the size wants, each of them one of the image's and none the header, and ends after them. (An early end is link 0,
-- which would be the header's page.)
pub record Unbroken (b : Bytes) (start size : ℕ) : Type 0 where
  pub inside : T (all (in_range (view b)) (chain (link b) (pages_for size) start))
  pub ends : beyond (link b) (pages_for size) start ≡ 0

-- the entry at a position is a file, whose chain is unbroken and holds this content
pub record WholeFile (b : Bytes) (at : ℕ) (locked : Bool) (date content : Bytes) : Type 0 where
  pub name : Bytes
  pub start : ℕ
  pub size : ℕ
  pub is : entry_at b at ≡ a_file locked name date start size
  pub unbroken : Unbroken b start size
  pub holds : content_of (view b) size (chain (link b) (pages_for size) start) ≡ content

-- the entry at a position is a directory, on a page of the image that is not the header
pub record WholeDirectory (b : Bytes) (at : ℕ) (date : Bytes) : Type 0 where
  pub name : Bytes
  pub start : ℕ
  pub size : ℕ
  pub is : entry_at b at ≡ a_directory name date start size
  pub inside : T (in_range (view b) start)

pub record NeverBroken (b : Bytes) : Type 0 where
  -- every file and every directory
  pub every_file : (at : ℕ) → T (member at (reached_entries b)) → (locked : Bool) (name date : Bytes) (start size : ℕ) → entry_at b at ≡ a_file locked name date start size
      → Unbroken b start size
  pub every_directory : (at : ℕ) → T (member at (reached_entries b)) → (name date : Bytes) (start size : ℕ) → entry_at b at ≡ a_directory name date start size
      → T (in_range (view b) start)
  -- what read, write and remove walk: the entry that a path leads to is one of these
  pub to_file : (path : Path) (locked : Bool) (date content : Bytes) → walk_to path (tree_of b).root ≡ arrived (file_node locked date content)
      → WholeFile b (entry_position b path) locked date content
  pub to_directory : (path : Path) (date : Bytes) (r : Row) → walk_to path (tree_of b).root ≡ arrived (directory_node date r) → T (not (is_root path))
      → WholeDirectory b (entry_position b path) date

abbrev pub Chains : Type 0
Chains = (b : Bytes) → T (sound b) → NeverBroken b

-- ---- Paper 02 §10: to lock or unlock twice changes nothing, on any bytes.

abbrev pub LockTwice : Type 0
LockTwice = (locked : Bool) (path b : Bytes) → after (set_lock locked path) (after (set_lock locked path) b) ≡ after (set_lock locked path) b
