-- The values of the walk's results in the model, and what is known of them: a directory that is come to is housed, an entry that is found lies in the image.
use Rattle.std.specs.Prelude.{ℕ, ◌+◌, ◌-◌, ◌≤◌, length, Option, Some, None, Result, Ok, Err}
use Rattle.volume.specs.Bytes.{Bytes}
use Rattle.model.specs.View.{View}
use Rattle.model.specs.Walk.{Walked, arrived}
use Rattle.paths.specs.declared.Stop.{Stop}
use Rattle.paths.specs.declared.Parent.{Parent}
use Rattle.paths.specs.Places.{stopped}
use Rattle.known2.specs.Housed.{Housed}
use Rattle.walk2.specs.declared.Walk.{Walk}

-- the entry lies in the image
abbrev pub Inside : Bytes → Option ℕ → Type 0
Inside b (Some position) = position + 32 ≤ length b
Inside b None = Unit {0}

abbrev pub walked_of : Result Walk Stop → Walked ℕ
walked_of (Ok walk) = arrived walk.0.0
walked_of (Err stop) = stopped stop

abbrev pub IntoHoused : View → Result Walk Stop → Type 0
IntoHoused v (Ok walk) = Housed v walk.0.0
IntoHoused v (Err stop) = Unit {0}

-- the directory is housed, and the last name lies in the path and fits an entry
abbrev pub Fits : View → Bytes → Result Parent Stop → Type 0
Fits v path (Ok p) = Housed v p.directory.0 × (p.begins ≤ length path) × (length path - p.begins ≤ 16)
Fits v path (Err stop) = Unit {0}
