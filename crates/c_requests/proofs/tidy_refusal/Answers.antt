-- Each arm is the code of its case; the two numbers of §13 point nowhere.
use Rattle.codes.specs.Codes.{packed}
use Rattle.c_requests.proofs.tidy_refusal.Goals as goal

pub code-requires : goal.code-requires
code-requires c = rw c.in-Base.is at c.requires

pub returns-in-Base : goal.returns-in-Base
returns-in-Base c = rw c.in-Base.is c.code.ensures

pub returns-in-OtherLength : goal.returns-in-OtherLength
unfolding packed
returns-in-OtherLength c = rw c.in-OtherLength.is

pub returns-in-NotAccepted : goal.returns-in-NotAccepted
unfolding packed
returns-in-NotAccepted c = rw c.in-NotAccepted.is
