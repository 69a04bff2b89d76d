-- The values of the types of this crate in the model's words.
use Rattle.std.specs.Prelude.{ℕ, length, Result, Ok, Err}
use Rattle.volume.specs.Bytes.{Bytes}
use Rattle.model.specs.Path.{Name}
use Rattle.model.specs.Walk.{Walked, arrived, missing, blocked}
use Rattle.arrivals.specs.Places.{Spot, the_root, the_file, the_directory}
use Rattle.paths.specs.Steps.{name_in}
use Rattle.paths.specs.declared.Stop.{Stop}
use Rattle.paths.specs.declared.Stop.TheVariants.{Missing, Blocked}
use Rattle.paths.specs.declared.Parent.{Parent}
use Rattle.paths.specs.declared.Place.{Place}
use Rattle.paths.specs.declared.Place.TheVariants.{Root, File, Directory}

abbrev pub stopped : {A : Type 0} → Stop → Walked A
stopped (Missing byte) = missing byte
stopped (Blocked byte) = blocked byte

-- the parent of a path: its page, and the last name
abbrev pub parent_of : Bytes → Result Parent Stop → Walked (ℕ × Name)
parent_of path (Ok p) = arrived (p.directory.0, name_in path p.begins (length path))
parent_of path (Err s) = stopped s

abbrev pub spot_of : Place → Spot
spot_of Root = the_root
spot_of (File t) = the_file t.entry t.begins t.start.0 t.size
spot_of (Directory t) = the_directory t.entry t.begins t.start.0 t.size
