-- `pass_fours` reads the flags of four entries a turn: all from `number` on so far are vacant.
use Rattle.fields.proofs.Plain.{rules, arith, refl, sym, ◌∙◌}
use Rattle.occupied2.proofs.Passing.{number_four}
use Rattle.occupied2.proofs.pass_fours.Goals as goal

pub loop-k-init : goal.loop-k-init
loop-k-init c = record { low = search rules; high = c.requires.0; left = refl }

pub overflow_sub-count : goal.overflow_sub-count
overflow_sub-count c = c.loop-k.invariant.high

pub overflow_mul-k : goal.overflow_mul-k
overflow_mul-k c = omega (arith, c.loop-k-test.true, c.requires.2)

pub overflow_add-start : goal.overflow_add-start
overflow_add-start c = omega (arith, c.loop-k-test.true, c.requires.2)

pub four_are_vacant-requires : goal.four_are_vacant-requires
four_are_vacant-requires c = let p = c.requires in (omega (arith, c.loop-k-test.true, p.1), omega (arith, c.loop-k-test.true, p.2))

pub overflow_add-k : goal.overflow_add-k
overflow_add-k c = omega (arith, c.loop-k-test.true, c.requires.2)

pub loop-k-smaller : goal.loop-k-smaller
loop-k-smaller c = omega (arith, c.loop-k-test.true)

pub loop-k-preserved : goal.loop-k-preserved
loop-k-preserved c = let o = c.loop-k.invariant in number_four o (omega (arith, o.high, c.loop-k-test.true)) (sym c.four_are_vacant.ensures ∙ c.if-four_are_vacant.true)

pub returns-else-four_are_vacant : goal.returns-else-four_are_vacant
returns-else-four_are_vacant c = c.loop-k.invariant

pub returns : goal.returns
returns c = c.loop-k.invariant
