use Rattle.fields.proofs.Plain.{◌-◌}
use Rattle.owning2.proofs.Chains.{Chained}
use Rattle.owning2.proofs.own_chain.Given as goal

abbrev pub invariant-loop-passed : goal.invariant-loop-passed
invariant-loop-passed l = Chained l.image l.shape l.on.0 l.i l.k l.initial.page.0 l.initial.marks l.passed l.page.0 l.marks

abbrev pub decreases-loop-passed : goal.decreases-loop-passed
decreases-loop-passed l = l.k - l.passed
