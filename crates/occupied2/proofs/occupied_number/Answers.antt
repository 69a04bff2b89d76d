-- `occupied_number` reads the flags of one entry a turn, from where four at a time are passed over: all from `number` on so far are vacant.
use Rattle.fields.proofs.Plain.{arith, told, untold}
use Rattle.occupied2.proofs.Passing.{number_next, number_here, number_none}
use Rattle.occupied2.proofs.occupied_number.Goals as goal

pub pass_fours-passed-requires : goal.pass_fours-passed-requires
pass_fours-passed-requires c = c.requires

pub loop-k-init : goal.loop-k-init
loop-k-init c = λ o. o

pub overflow_mul-k : goal.overflow_mul-k
overflow_mul-k c = omega (arith, c.loop-k-test.true, c.requires.2)

pub overflow_add-start : goal.overflow_add-start
overflow_add-start c = omega (arith, c.loop-k-test.true, c.requires.2)

pub is_vacant-requires : goal.is_vacant-requires
is_vacant-requires c = omega (arith, c.loop-k-test.true, c.requires.1)

pub loop-k-preserved : goal.loop-k-preserved
loop-k-preserved c = λ o. number_next (c.loop-k.invariant o) c.loop-k-test.true (told c.is_vacant.ensures c.if-not-is_vacant.false-raw)

pub returns-then-not-is_vacant : goal.returns-then-not-is_vacant
returns-then-not-is_vacant c =
    let o = c.loop-k.invariant c.pass_fours-passed.ensures in (
      number_here o c.loop-k-test.true (untold c.is_vacant.ensures c.if-not-is_vacant.true-raw),
      o.low,
      o.high,
    )

pub returns : goal.returns
returns c = (number_none (c.loop-k.invariant c.pass_fours-passed.ensures) c.loop-k-test.false, c.requires.0, omega arith)
