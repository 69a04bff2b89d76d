-- `walk_parents` goes one name on a turn, and the parent that what is left of the path leads to from there is the parent of the path.
use Rattle.fields.proofs.Plain.{rules}
use Rattle.walk.proofs.Parents.{standing_first, standing_short, standing_last}
use Rattle.walk.proofs.Parents.{standing_fits, standing_next, standing_stopped, stopped_on}
use Rattle.walk.proofs.walk_parents.Goals as goal

pub loop-walk-init : goal.loop-walk-init
loop-walk-init c = search standing_first

pub returns-then-to-path : goal.returns-then-to-path
returns-then-to-path c = ((search rules, search rules, search standing_short), search standing_last)

pub pad-name-requires : goal.pad-name-requires
pad-name-requires c = search standing_fits

pub returns-in_err-walk : goal.returns-in_err-walk
returns-in_err-walk c = stopped_on _ _ _ c.from_residual.ensures.1 (search (standing_stopped, c.in_err-walk.ensures))

pub loop-walk-preserved : goal.loop-walk-preserved
loop-walk-preserved c = search (standing_next, c.in_ok-walk.ensures)
