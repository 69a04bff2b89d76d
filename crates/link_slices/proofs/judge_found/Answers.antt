-- A file without a bad row is for the list if that has room for it.
use Rattle.link_slices.proofs.Readings.{found_rows, found_short, found_bad}
use Rattle.link_slices.proofs.judge_found.Goals as goal

pub returns-in_err-count : goal.returns-in_err-count
returns-in_err-count c = found_bad _ _ _ _ c.from_residual.ensures.1 c.in_err-count.ensures

pub returns-then-room-count : goal.returns-then-room-count
returns-then-room-count c = found_short _ _ _ c.in_ok-count.ensures c.if-room-count.true

pub returns : goal.returns
returns c = found_rows _ _ _ c.in_ok-count.ensures c.if-room-count.false
