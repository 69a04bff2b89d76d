-- Document 01, "The plain tree": the path is walked with a state that takes one name and yields the next place. The walk on the tree, and
-- the walk on the bytes, by a view v (in version 1 `view b`), which says where make, write and remove work. Law `walk_bytes`: they lead to the same
-- place or stop at the same name.
use Rattle.std.specs.Prelude.{ℕ, List, [], ◌∷◌, replicate}
use Rattle.std.proofs.Math.Option.{Option, none, some, get_or, map}
use Rattle.volume.specs.Bytes.{Bytes}
use Rattle.volume.specs.Lists.{first}
use Rattle.model.specs.Entry.{Entry, vacant, a_file, a_directory}
use Rattle.model.specs.View.{View}
use Rattle.model.specs.Version1.{view}
use Rattle.model.specs.Sound.{is_named}
use Rattle.model.specs.Tree.{Row, Node, file_node, directory_node, lookup, inside}
use Rattle.model.specs.Path.{Name, Path, no_path, root, below, parents, last_name}

-- Where a walk leads: to a place, or to a name that isn't in its directory, or to a file's name where it needs a directory;
-- a walk stops there, so the leftmost fault counts.
pub data Walked (A : Type 0) : Type 0 where
  arrived : A → Walked A
  missing : (begins : ℕ) → Walked A
  blocked : (begins : ℕ) → Walked A

-- ---- on the plain tree

-- into the directory of that name
unfoldable pub enter : Name → Option Node → (Row → Walked Row) → Walked Row
enter n none on = missing n.begins
enter n (some (file_node l d v)) on = blocked n.begins
enter n (some (directory_node d r)) on = on r

-- the directory that the names lead to
unfoldable pub walk : List Name → Row → Walked Row
walk [] r = arrived r
walk (n ∷ ns) r = enter n (lookup n.bytes r) (walk ns)

unfoldable pub node_named : Name → Option Node → Walked Node
node_named n none = missing n.begins
node_named n (some x) = arrived x

unfoldable pub in_walked : {A B : Type 0} → Walked A → (A → Walked B) → Walked B
in_walked (arrived x) f = f x
in_walked (missing i) f = missing i
in_walked (blocked i) f = blocked i

-- What a path leads to. The root's date is eight zeros. (Bytes that are no path lead nowhere: line 4 stands above all that asks.)
unfoldable pub walk_to : Path → Row → Walked Node
walk_to no_path r = missing 0
walk_to root r = arrived (directory_node (replicate 8 0) r)
walk_to (below ns n) r = in_walked (walk ns r) (λ s. node_named n (lookup n.bytes s))

-- f done to the row of the directory that the names lead to
unfoldable pub change_at : List Name → (Row → Row) → Row → Row
change_at [] f r = f r
change_at (n ∷ ns) f r = inside n.bytes (change_at ns f) r

-- ---- on the bytes

-- the position of the entry of that name in the directory p
unfoldable pub entry_named : View → (directory : ℕ) → Bytes → Option ℕ
entry_named v p n = first (λ at. is_named n (v.entry_at at)) (v.entries p)

unfoldable pub enter_on : Name → Option Entry → (ℕ → Walked ℕ) → Walked ℕ
enter_on n none on = missing n.begins
enter_on n (some vacant) on = missing n.begins
enter_on n (some (a_file locked name date start size)) on = blocked n.begins
enter_on n (some (a_directory name date start size)) on = on start

-- the directory that the names lead to from the directory p
unfoldable pub walk_on : View → List Name → (directory : ℕ) → Walked ℕ
walk_on v [] p = arrived p
walk_on v (n ∷ ns) p = enter_on n (map v.entry_at (entry_named v p n.bytes)) (walk_on v ns)

-- ---- what a walk arrived at; where it stopped a refusal stands above all that asks

unfoldable pub arrived_or : {A : Type 0} → A → Walked A → A
arrived_or d (arrived x) = x
arrived_or d (missing i) = d
arrived_or d (blocked i) = d

-- the first page of a path's parent directory, and the position of the entry that the path leads to
abbrev pub parent_in : View → Path → ℕ
parent_in v p = arrived_or 0 (walk_on v (parents p) 0)

abbrev pub position_in : View → Path → ℕ
position_in v p = get_or (entry_named v (parent_in v p) (last_name p)) 0

-- in version 1
abbrev pub parent_page : Bytes → Path → ℕ
parent_page b p = parent_in (view b) p

abbrev pub entry_position : Bytes → Path → ℕ
entry_position b p = position_in (view b) p
