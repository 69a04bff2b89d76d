-- `walk_parents` goes one name on a turn, and the parent that what is left of the path leads to from there is the parent of the path.
use Rattle.fields.proofs.Plain.{rules}
use Rattle.paths.proofs.Parents.{standing_short, standing_last, standing_fits}
use Rattle.walk2.proofs.Parents.{standing_first, standing_next, standing_stopped, stopped_on}
use Rattle.walk2.proofs.walk_parents.Goals as goal

pub loop-shape-init : goal.loop-shape-init
loop-shape-init c = search standing_first

pub returns-then-to-path : goal.returns-then-to-path
returns-then-to-path c = ((search rules, search rules, search standing_short), search standing_last)

pub pad-name-requires : goal.pad-name-requires
pad-name-requires c = search standing_fits

pub loop-shape-preserved : goal.loop-shape-preserved
loop-shape-preserved c = search (standing_next, c.in_ok-walk.ensures)

pub returns-in_err-walk : goal.returns-in_err-walk
returns-in_err-walk c = stopped_on _ _ _ _ c.from_residual.ensures.1 (search (standing_stopped, c.in_err-walk.ensures))
