-- `release` gives one page back a turn, and the links of the pages left stay as they were.
use Rattle.fields.proofs.Plain.{◌-◌, arith}
use Rattle.volume.proofs.Releasing.{releasing_first, releasing_here, releasing_turn, releasing_last}
use Rattle.shape_growth.proofs.release.Goals as goal

pub loop-init : goal.loop-init
loop-init c = search releasing_first

pub release_page-requires : goal.release_page-requires
release_page-requires c = releasing_here c.loop.invariant c.loop-test.true

pub link-page-requires : goal.link-page-requires
link-page-requires c =
    let turn = c in
    omega (arith, (releasing_here turn.loop.invariant turn.loop-test.true).0.link, c.release_page.auto.image)

pub loop-preserved : goal.loop-preserved
loop-preserved c = search releasing_turn

pub shape_of-image : goal.shape_of-image
shape_of-image c = c.loop.invariant.size

pub returns : goal.returns
returns c = search releasing_last
