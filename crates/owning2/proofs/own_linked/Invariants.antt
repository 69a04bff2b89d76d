use Rattle.fields.proofs.Plain.{◌-◌}
use Rattle.owning2.proofs.Owning.{Owning}
use Rattle.owning2.proofs.own_linked.Given as goal

abbrev pub invariant-loop-passed : goal.invariant-loop-passed
invariant-loop-passed l = Owning l.image l.shape l.on.0 l.i l.most l.initial.page.0 l.initial.marks l.passed l.page.0 l.marks

abbrev pub decreases-loop-passed : goal.decreases-loop-passed
decreases-loop-passed l = l.most - l.passed
