-- A row is three numbers, one behind the other, that are in range.
use Rattle.link_rows.proofs.Rows.{row_none, row_counted, row_valued, three_read, row_out, row_in}
use lib.ListN.{drop}
use Rattle.link_rows.proofs.row_at.Goals as goal

pub returns-in_err-count : goal.returns-in_err-count
returns-in_err-count c = let v = c.args.s.now in rw c.from_residual.ensures (row_none v (drop c.args.at v) c.in_err-count.ensures.0, tt)

pub returns-in_err-value : goal.returns-in_err-value
returns-in_err-value c =
    let v = c.args.s.now in
    rw c.from_residual-in_err-value.ensures (row_counted v (drop c.args.at v) c.in_ok-count.count c.in_ok-count.ensures.0 c.in_err-value.ensures.0, tt)

pub returns-in_err-figure : goal.returns-in_err-figure
returns-in_err-figure c =
    let v = c.args.s.now in
    rw c.from_residual-in_err-figure.ensures (row_valued v (drop c.args.at v) c.in_ok-count.count c.in_ok-count.ensures.0 c.in_ok-value.value c.in_ok-value.ensures.0 c.in_err-figure.ensures.0, tt)

pub returns-then-not-in_range : goal.returns-then-not-in_range
returns-then-not-in_range c =
    let v = c.args.s.now in
    let third = c.in_ok-figure.ensures in
    let three = three_read v (drop c.args.at v) c.in_ok-count.count c.in_ok-count.ensures.0 c.in_ok-value.value c.in_ok-value.ensures.0 {c = c.in_ok-figure.figure} third.0 third.1.1 in
    (row_out three c.in_range.ensures c.if-not-in_range.true-raw, tt)

pub returns : goal.returns
returns c =
    let v = c.args.s.now in
    let third = c.in_ok-figure.ensures in
    let three = three_read v (drop c.args.at v) c.in_ok-count.count c.in_ok-count.ensures.0 c.in_ok-value.value c.in_ok-value.ensures.0 {c = c.in_ok-figure.figure} third.0 third.1.1 in
    row_in three c.in_range.ensures c.if-not-in_range.false-raw
