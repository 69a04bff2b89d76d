-- Paper 02 §14: what can be noticed from one directory of an image, whatever the others hold.
use Rattle.std.specs.Prelude.{◌≡◌, ℕ, List, [], ◌∷◌, ◌++◌, Bool, not, T, if◌then◌else◌}
use Rattle.volume.specs.Bytes.{Bytes}
use Rattle.model.specs.Layout.{free_count}
use Rattle.model.specs.Sound.{sound}
use Rattle.model.specs.Tree.{Row}
use Rattle.model.specs.Path.{path_of, is_no_path, is_root}
use Rattle.model.specs.Image.{tree_of}
use Rattle.model.specs.Walk.{arrived}
use Rattle.model.specs.Call.{Call, find, list, read, make_file, make_directory, write, remove_file, remove_directory, set_lock}
use Rattle.model.specs.Refusal.{walked_directory}
use Rattle.model.specs.Demands.{Results, Runs}

-- ---- below a directory

-- a directory's path, a slash, and what follows; the root's path is the slash
unfoldable pub onward : (family rest : Bytes) → Bytes
onward family rest = if is_root (path_of family) then 0x2F ∷ rest else family ++ (0x2F ∷ rest)

-- Strictly below: something follows. It may be anything: where the whole is no path, it is refused as such.
abbrev pub Below : (family path : Bytes) → Type 0
Below family path = (c : ℕ) × (rest : Bytes) × (path ≡ onward family (c ∷ rest))

-- ---- the calls

-- find and read strictly below, list at or below
pub data Looks (family : Bytes) : Call → Type 0 where
  finds : (path : Bytes) → Below family path → Looks family (find path)
  reads : (path : Bytes) (position : ℕ) (buffer : Bytes) → Below family path → Looks family (read path position buffer)
  lists : (entry : ℕ) → Looks family (list family entry)
  lists_below : (path : Bytes) (entry : ℕ) → Below family path → Looks family (list path entry)

-- these, and make, write, remove, lock and unlock strictly below
pub data Works (family : Bytes) : Call → Type 0 where
  looks : (c : Call) → Looks family c → Works family c
  makes_file : (path date : Bytes) → Below family path → Works family (make_file path date)
  makes_directory : (path date : Bytes) → Below family path → Works family (make_directory path date)
  writes : (path : Bytes) (position : ℕ) (bytes : Bytes) → Below family path → Works family (write path position bytes)
  removes_file : (path : Bytes) → Below family path → Works family (remove_file path)
  removes_directory : (path : Bytes) → Below family path → Works family (remove_directory path)
  locks : (locked : Bool) (path : Bytes) → Below family path → Works family (set_lock locked path)

abbrev pub Each : (Call → Type 0) → List Call → Type 0
Each P [] = Unit {0}
Each P (c ∷ cs) = P c × Each P cs

-- ---- the statements

-- the path is a directory that holds this row: names, dates, contents and locks in their entries, to any depth; the directory's own date is not in it
pub record Holds (b family : Bytes) (row : Row) : Type 0 where
  pub is_sound : T (sound b)
  pub is_path : T (not (is_no_path (path_of family)))
  pub leads : walked_directory family (tree_of b) ≡ arrived row

-- N need not be equal.
abbrev pub LooksAlike : Type 0
LooksAlike = (family : Bytes) (row : Row) (b₁ b₂ : Bytes) → Holds b₁ family row → Holds b₂ family row
    → (cs : List Call) → Each (Looks family) cs
    → (rs₁ rs₂ : Results cs) (after₁ after₂ : Bytes) → Runs b₁ cs rs₁ after₁ → Runs b₂ cs rs₂ after₂
    → rs₁ ≡ rs₂

-- what holds afterwards
pub record Alike (family : Bytes) (cs : List Call) (rs₁ rs₂ : Results cs) (after₁ after₂ : Bytes) : Type 0 where
  pub answered : rs₁ ≡ rs₂
  pub row : Row
  pub first : Holds after₁ family row
  pub second : Holds after₂ family row
  pub free : free_count after₁ ≡ free_count after₂

abbrev pub WorksAlike : Type 0
WorksAlike = (family : Bytes) (row : Row) (b₁ b₂ : Bytes) → Holds b₁ family row → Holds b₂ family row → free_count b₁ ≡ free_count b₂
    → (cs : List Call) → Each (Works family) cs
    → (rs₁ rs₂ : Results cs) (after₁ after₂ : Bytes) → Runs b₁ cs rs₁ after₁ → Runs b₂ cs rs₂ after₂
    → Alike family cs rs₁ rs₂ after₁ after₂
