-- Three numbers put one behind the other are the row's bytes; each has at most 8.
use Rattle.link_list.proofs.Rows.{held, range_fits}
use Rattle.link_numbers.proofs.Puts.{groups_short}
use Rattle.link_rows.proofs.Packs.{row_put}
use native.Mathlib.Omega.{arith}
use borrow.Author.Rules.{rules}
use Rattle.link_rows.proofs.put_row.Goals as goal

pub put_number-behind_count-requires : goal.put_number-behind_count-requires
put_number-behind_count-requires c = (omega arith, (range_fits _ (held _ c.requires.1)).count)

pub put_number-behind_value-requires : goal.put_number-behind_value-requires
put_number-behind_value-requires c =
    let start = c in
    (omega (arith, groups_short 8 start.args.row.count), (range_fits _ (held _ start.requires.1)).value)

pub put_number-requires : goal.put_number-requires
put_number-requires c =
    let start = c in
    (omega (arith, groups_short 8 start.args.row.count, groups_short 8 start.args.row.value), (range_fits _ (held _ start.requires.1)).figure)

pub returns : goal.returns
returns c =
    let third = c in
    let second = third in
    let first = second in
    let whole = row_put _ _ _ _ _ _ _ _ _ (search rules) first.put_number-behind_count.ensures.value first.put_number-behind_count.ensures.bytes_after second.put_number-behind_value.ensures.value second.put_number-behind_value.ensures.bytes_after third.put_number.ensures.value third.put_number.ensures.bytes_after in
    record { value = whole.0; bytes_after = whole.1 }
