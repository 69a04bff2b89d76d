use Rattle.proposals.proofs.Numbers.{Turned}
use Rattle.targets.proofs.invert.Given as goal

abbrev pub invariant-loop-p : goal.invariant-loop-p
invariant-loop-p l = Turned l.places l.initial.pages l.p l.pages
