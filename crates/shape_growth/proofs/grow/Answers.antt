-- `grow` adds one page a turn, and there is room for those left, with the new page's link as the joint; no page before its byte is free.
use Rattle.fields.proofs.Plain.{◌-◌, arith}
use Rattle.volume.proofs.Growing.{adding_first, adding_one, adding_link, adding_turn, adding_last}
use Rattle.shape_bitmap.proofs.Search.{before_first}
use Rattle.shape_growth.proofs.Bytes.{before_next}
use Rattle.shape_growth.proofs.grow.Goals as goal

pub loop-init : goal.loop-init
loop-init c = (search adding_first, before_first _ _ _)

pub append-page-requires : goal.append-page-requires
append-page-requires c = (search adding_one, c.loop.invariant.1)

pub link_cell-at-requires : goal.link_cell-at-requires
link_cell-at-requires c =
    let turn = c in
    omega (arith, adding_link turn.loop.invariant.0 turn.loop-test.true c.append-page.ensures.0)

pub loop-preserved : goal.loop-preserved
loop-preserved c = (search adding_turn, search (adding_one, before_next))

pub shape_of-image : goal.shape_of-image
shape_of-image c = c.loop.invariant.0.size

pub returns : goal.returns
returns c = search adding_last
