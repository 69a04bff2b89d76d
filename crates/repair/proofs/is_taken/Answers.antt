-- `is_taken` asks for the header first.
use Rattle.repair.proofs.Taken.{taken_header, taken_mark}
use Rattle.repair.proofs.is_taken.Goals as goal

pub returns-then-p-eq0 : goal.returns-then-p-eq0
returns-then-p-eq0 c = taken_header _ _ c.if-p-eq0.true

pub returns : goal.returns
returns c = taken_mark _ _ c.if-p-eq0.false
