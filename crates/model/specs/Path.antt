-- Document 01, "The plain tree": paths. A path is `/`, or one or more times `/` and a legal name without padding; no other bytes are one.
use Rattle.std.specs.Prelude.{ℕ, ◌+◌, Bool, true, false, ◌&&◌, length, eqb, if◌then◌else◌}
use mathlib.Core.List.{List, [], ◌∷◌, ◌++◌, drop_last}
use Rattle.volume.specs.Bytes.{Bytes}
use Rattle.volume.specs.Lists.{all, last_or}
use Rattle.model.specs.Name.{legal_text, padded}

-- a name of a path: the byte of the path at which it begins, and its 16 bytes, padded
pub record Name : Type 0 where
  pub begins : ℕ
  pub bytes : Bytes

-- The names of a path but the last lead to the parent directory, in which the last stands.
pub data Path : Type 0 where
  no_path : Path
  root : Path
  below : (parents : List Name) (last : Name) → Path

-- c put before the first text
unfoldable pub before : ℕ → List Bytes → List Bytes
before c [] = (c ∷ []) ∷ []
before c (v ∷ vs) = (c ∷ v) ∷ vs

-- the texts between the slashes
unfoldable pub texts : Bytes → List Bytes
texts [] = [] ∷ []
texts (c ∷ r) = if eqb c 0x2F then [] ∷ texts r else before c (texts r)

-- texts as names, of which the first begins at byte i
unfoldable pub names_from : ℕ → List Bytes → List Name
names_from i [] = []
names_from i (v ∷ vs) = record { begins = i; bytes = padded v } ∷ names_from (i + length v + 1) vs

unfoldable pub path_to : List Name → Path
path_to [] = root
path_to (n ∷ ns) = below (drop_last (n ∷ ns)) (last_or n ns)

unfoldable pub path_of : Bytes → Path
path_of [] = no_path
path_of (c ∷ []) = if eqb c 0x2F then root else no_path
path_of (c ∷ d ∷ r) = if eqb c 0x2F && all legal_text (texts (d ∷ r)) then path_to (names_from 1 (texts (d ∷ r))) else no_path

-- ---- the parts of a path

unfoldable pub is_no_path : Path → Bool
is_no_path no_path = true
is_no_path root = false
is_no_path (below ns n) = false

unfoldable pub is_root : Path → Bool
is_root no_path = false
is_root root = true
is_root (below ns n) = false

abbrev pub parents : Path → List Name
parents no_path = []
parents root = []
parents (below ns n) = ns

-- all names
abbrev pub names : Path → List Name
names no_path = []
names root = []
names (below ns n) = ns ++ (n ∷ [])

abbrev pub last_name : Path → Bytes
last_name no_path = []
last_name root = []
last_name (below ns n) = n.bytes
