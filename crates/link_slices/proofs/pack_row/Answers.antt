-- A row is put where it may be written and there is room for any row.
use borrow.Author.Tests.{not-true, not-false}
use Rattle.link_slices.proofs.Packs.{row_not, room_not, row_packed}
use native.Mathlib.Omega.{arith}
use mathlib.Core.Path.{sym, ◌∙◌}
use Rattle.link_slices.proofs.pack_row.Goals as goal

pub returns-then-not-in_range : goal.returns-then-not-in_range
returns-then-not-in_range c = row_not _ _ _ (sym c.in_range.ensures ∙ not-true _ c.if-not-in_range.true-raw)

pub returns-then-len-lt24 : goal.returns-then-len-lt24
returns-then-len-lt24 c = room_not _ _ _ (omega (arith, c.if-len-lt24.true))

pub returns-then-len-at : goal.returns-then-len-at
returns-then-len-at c = room_not _ _ _ (omega (arith, c.if-len-at.true, c.if-len-lt24.false))

pub put_row-requires : goal.put_row-requires
put_row-requires c = (omega (arith, c.if-len-at.false, c.if-len-lt24.false), sym c.in_range.ensures ∙ not-false _ c.if-not-in_range.false-raw)

pub returns : goal.returns
returns c =
    let at-put-row = c in
    let at-if3 = at-put-row in
    let at-if1 = at-if3 in
    row_packed _ _ _ (sym at-if1.in_range.ensures ∙ not-false _ at-if1.if-not-in_range.false-raw) (omega (arith, at-if3.if-len-at.false, at-if3.if-len-lt24.false)) _ at-put-row.put_row.ensures.value _ at-put-row.put_row.ensures.bytes_after
