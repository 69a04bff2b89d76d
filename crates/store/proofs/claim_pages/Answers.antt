-- `claim_pages` claims one page a turn.
use Rattle.store.proofs.Claims.{claiming_first, claiming_turn, claiming_last}
use Rattle.store.proofs.claim_pages.Goals as goal

pub loop-init : goal.loop-init
loop-init c = search claiming_first

pub loop-preserved : goal.loop-preserved
loop-preserved c = search claiming_turn

pub shape_of-header : goal.shape_of-header
shape_of-header c = c.loop.invariant.size

pub returns : goal.returns
returns c = search claiming_last
