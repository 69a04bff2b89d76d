-- `page_at` follows one link a turn, and where the links left lead to is where all lead to.
use Rattle.fields.proofs.Plain.{◌-◌}
use Rattle.volume.proofs.Follow.{following_first, following_here, following_turn, following_last}
use Rattle.shape_chains.proofs.page_at.Goals as goal

pub loop-init : goal.loop-init
loop-init c = search following_first

pub link-page-requires : goal.link-page-requires
link-page-requires c = following_here c.loop.invariant c.loop-test.true

pub loop-preserved : goal.loop-preserved
loop-preserved c = search following_turn

pub returns : goal.returns
returns c = search following_last
