-- What a walk's contracts name, by a view v: one step, and the parent of a path.
use Rattle.std.specs.Prelude.{ℕ, ◌-◌, [], take, drop}
use Rattle.std.proofs.Math.Option.{map}
use Rattle.volume.specs.Bytes.{Bytes}
use Rattle.model.specs.Name.{padded}
use Rattle.model.specs.View.{View}
use Rattle.model.specs.Path.{Name, Path, no_path, root, below, parents}
use Rattle.model.specs.Walk.{Walked, arrived, in_walked, entry_named, enter_on, walk_on}

-- one name on from the directory p
abbrev pub entered : View → Name → (directory : ℕ) → Walked ℕ
entered v n p = enter_on n (map v.entry_at (entry_named v p n.bytes)) arrived

-- the name that stands in a path from one byte to another
abbrev pub name_in : Bytes → (from to : ℕ) → Name
name_in path from to = record { begins = from; bytes = padded (take (to - from) (drop from path)) }

abbrev pub last : Path → Name
last no_path = record { begins = 0; bytes = [] }
last root = record { begins = 0; bytes = [] }
last (below ns n) = n

-- the directory that all names but the last lead to from the directory p, and the last name
abbrev pub walked_parent : View → Path → (directory : ℕ) → Walked (ℕ × Name)
walked_parent v path p = in_walked (walk_on v (parents path) p) (λ q. arrived (q, last path))
