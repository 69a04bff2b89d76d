-- `name_is_fresh` looks at one earlier entry a turn, the last one first, as the model's list of them has it.
use Rattle.fields.proofs.Plain.{rules}
use Rattle.fresh.proofs.Names.{flags_here, illegal_name, name_taken, still_apart, name_fresh}
use Rattle.fresh.proofs.name_is_fresh.Goals as goal

pub name_is_legal-requires : goal.name_is_legal-requires
name_is_legal-requires c = (search rules, search flags_here)

pub returns-then-not-name_is_legal : goal.returns-then-not-name_is_legal
returns-then-not-name_is_legal c = search illegal_name

pub returns-then-has_name_of : goal.returns-then-has_name_of
returns-then-has_name_of c = search name_taken

pub loop-j-preserved : goal.loop-j-preserved
loop-j-preserved c = (search rules, search still_apart)

pub returns : goal.returns
returns c = search name_fresh
