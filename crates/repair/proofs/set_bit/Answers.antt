-- `set_bit` marks or unmarks.
use Rattle.repair.proofs.Taken.{when, unless}
use Rattle.repair.proofs.set_bit.Goals as goal

pub returns-then-taken : goal.returns-then-taken
returns-then-taken c = when _ _ _ _ c.if-taken.true c.mark.ensures

pub returns : goal.returns
returns c = unless _ _ _ _ c.if-taken.false c.unmark.ensures
