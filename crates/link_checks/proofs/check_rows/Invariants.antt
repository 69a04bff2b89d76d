use Rattle.volume.specs.Lists.{all}
use Rattle.link_list.specs.Coding.{in_range}
use Rattle.link_rows.specs.Told.{steps_from}
use Rattle.link_checks.specs.Checks.{checked_rows}
use mathlib.Core.Path.{◌≡◌}
use mathlib.Core.Bool.{true}
use Prim.Native.Nat.{◌-◌}
use Rattle.link_checks.proofs.check_rows.Given as goal

abbrev pub invariant-loop-i : goal.invariant-loop-i
invariant-loop-i l = (all in_range (steps_from l.file (l.rows - l.i) l.at) ≡ true) × (checked_rows l.i l.directory l.image (steps_from l.file (l.rows - l.i) l.at) ≡ checked_rows 0 l.directory l.image (steps_from l.file l.rows 0))
