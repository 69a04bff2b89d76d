-- The digits put so far, from the last on, with those of the rest are the accession.
use Rattle.link_numbers.proofs.Digits.{digits_turn, digits_end}
use native.Mathlib.Omega.{arith}
use mathlib.Core.Path.{sym, ◌∙◌}
use lib.ListN.{length-set}
use Rattle.link_numbers.proofs.put_digits.Goals as goal

pub loop-left-preserved : goal.loop-left-preserved
loop-left-preserved c =
    let start = c in
    let inv = c.loop-left.invariant in
    let turn = digits_turn start.args.at c.loop-left.left c.loop-left.rest c.loop-left.bytes c.loop-left-test.true (omega (arith, inv.1, start.requires)) in
    (omega arith, simp length-set inv.1, sym turn ∙ inv.2)

pub returns : goal.returns
returns c =
    let start = c in
    let inv = c.loop-left.invariant in sym (digits_end start.args.at c.loop-left.left c.loop-left.rest c.loop-left.bytes c.loop-left-test.false) ∙ inv.2
