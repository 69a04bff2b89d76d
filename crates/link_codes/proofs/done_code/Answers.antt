-- Each arm is the code of its case.
use Rattle.link_codes.specs.Codes.{link_code_of}
use Rattle.link_codes.proofs.done_code.Goals as goal

pub code-requires : goal.code-requires
unfolding link_code_of
code-requires c = rw c.in-Err.is at c.requires

pub returns-in-Ok : goal.returns-in-Ok
unfolding link_code_of
returns-in-Ok c = rw c.in-Ok.is

pub returns-in-Err : goal.returns-in-Err
unfolding link_code_of
returns-in-Err c = rw c.in-Err.is c.code.ensures
