-- The values of the walk's results in the model, and what its contracts name besides, by version 1's view: one step, and the parent of a path.
use Rattle.std.specs.Prelude.{ℕ, ◌+◌, ◌-◌, ◌<◌, ◌≤◌, length, Option, Some, None, Result, Ok, Err}
use Rattle.std.proofs.Math.Option as Math
use Rattle.std.proofs.Math.Option.{none, some}
use Rattle.volume.specs.Bytes.{Bytes}
use Rattle.model.specs.Version1.{view}
use Rattle.model.specs.Path.{Name, Path}
use Rattle.model.specs.Walk.{Walked, arrived}
use Rattle.paths.specs.declared.Stop.{Stop}
use Rattle.paths.specs.declared.Parent.{Parent}
use Rattle.paths.specs.Places.{stopped}
use Rattle.paths.specs.Steps as On
pub use Rattle.paths.specs.Steps.{name_in, last}
use Rattle.walk.specs.declared.Walk.{Walk}

-- the position of an entry
abbrev pub spot_of : Option ℕ → Math.Option ℕ
spot_of (Some position) = some position
spot_of None = none

-- the entry lies in the image
abbrev pub Inside : Bytes → Option ℕ → Type 0
Inside b (Some position) = position + 32 ≤ length b
Inside b None = Unit {0}

abbrev pub walked_of : Result Walk Stop → Walked ℕ
walked_of (Ok walk) = arrived walk.0.0
walked_of (Err stop) = stopped stop

-- a page that a walk has come to is a byte
abbrev pub Small : Result Walk Stop → Type 0
Small (Ok walk) = walk.0.0 < 256
Small (Err stop) = Unit {0}

-- one name on from the directory on page p
abbrev pub entered : Bytes → Name → (page : ℕ) → Walked ℕ
entered b = On.entered (view b)

-- ---- the parent of a path

-- the page of the directory that all names but the last lead to from the one on page p, and the last name
abbrev pub walked_parent : Bytes → Path → (page : ℕ) → Walked (ℕ × Name)
walked_parent b = On.walked_parent (view b)

-- the page is a byte, and the last name lies in the path and fits an entry
abbrev pub Fits : Bytes → Result Parent Stop → Type 0
Fits path (Ok p) = (p.directory.0 < 256) × (p.begins ≤ length path) × (length path - p.begins ≤ 16)
Fits path (Err stop) = Unit {0}
