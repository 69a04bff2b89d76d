use Rattle.link_rows.specs.Told.{steps_from}
use Rattle.link_list.specs.Links.{figure_of}
use mathlib.Core.Path.{◌≡◌}
use Prim.Native.Nat.{◌-◌}
use Rattle.link_rows.proofs.figure_in.Given as goal

abbrev pub invariant-loop : goal.invariant-loop
invariant-loop l = figure_of l.count l.value (steps_from l.file (l.rows - l.counter) l.at) ≡ figure_of l.count l.value (steps_from l.file l.rows 0)
