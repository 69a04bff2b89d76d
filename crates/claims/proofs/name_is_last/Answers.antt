-- `name_is_last` compares with one later entry a turn.
use Rattle.fields.proofs.Plain.{arith}
use Rattle.claims.proofs.Names.{apart_stop, apart_go, apart_done}
use Rattle.claims.proofs.name_is_last.Goals as goal

pub returns-then-have_one_name : goal.returns-then-have_one_name
returns-then-have_one_name c = search apart_stop

pub loop-j-preserved : goal.loop-j-preserved
loop-j-preserved c = (omega arith, search apart_go)

pub returns : goal.returns
returns c = search apart_done
