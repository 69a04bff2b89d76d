-- Each arm is the code of its case.
use Rattle.codes.specs.Codes.{code_of}
use Rattle.c_requests.proofs.tidy_code.Goals as goal

pub tidy_refusal-requires : goal.tidy_refusal-requires
tidy_refusal-requires c = rw c.in-Err.is at c.requires

pub returns-in-Ok : goal.returns-in-Ok
unfolding code_of
returns-in-Ok c = rw c.in-Ok.is

pub returns-in-Err : goal.returns-in-Err
unfolding code_of
returns-in-Err c = rw c.in-Err.is c.tidy_refusal.ensures
