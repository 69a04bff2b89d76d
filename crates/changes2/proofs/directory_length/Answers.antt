-- `directory_length` passes a page a turn: with those left they are as many as the directory has, and link 0 ends it.
use Rattle.fields.proofs.Plain.{arith}
use Rattle.changes2.proofs.Directories.{counting_first, counting_here, counting_last, counting_turn, counting_all}
use Rattle.changes2.proofs.directory_length.Goals as goal

pub loop-passed-init : goal.loop-passed-init
loop-passed-init c = counting_first c.requires.lie

pub link-page-requires : goal.link-page-requires
link-page-requires c = counting_here c.loop-passed.invariant (omega (arith, c.loop-passed-test.true))

pub returns-then-page-eq0 : goal.returns-then-page-eq0
returns-then-page-eq0 c = counting_last c.loop-passed.invariant (omega (arith, c.loop-passed-test.true)) c.link-page.ensures c.if-page-eq0.true

pub loop-passed-preserved : goal.loop-passed-preserved
loop-passed-preserved c = counting_turn c.loop-passed.invariant (omega (arith, c.loop-passed-test.true)) c.link-page.ensures c.if-page-eq0.false

pub returns : goal.returns
returns c = counting_all c.loop-passed.invariant (omega (arith, c.loop-passed-test.false))
