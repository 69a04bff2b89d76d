-- A walk that did not arrive is told by 11 where the date is bad.
use Rattle.link_old.proofs.Before.{first_good, first_stopped, first_stays}
use Rattle.link_old.proofs.date_first.Goals as goal

pub returns-then-good : goal.returns-then-good
returns-then-good c = first_good _ _ c.if-good.true

pub returns-in-NoSuchName : goal.returns-in-NoSuchName
returns-in-NoSuchName c = first_stopped _ _ c.if-good.false c.in-NoSuchName.is

pub returns-in_default : goal.returns-in_default
returns-in_default c = first_stays _ _ c.in_default.not-NoSuchName c.in_default.not-NotADirectory
