use Rattle.fields.proofs.Plain.{◌≡◌, ◌-◌}
use Rattle.volume.specs.Lists.{all}
use Rattle.model2.specs.Entry.{name_at}
use Rattle.names2.specs.Reached.{apart, steps}
use Rattle.names2.proofs.names_differ.Given as goal

abbrev pub invariant-loop-k : goal.invariant-loop-k
invariant-loop-k l = all (apart l.image (name_at l.image l.at)) (steps l.start l.k (l.count - l.k)) ≡ all (apart l.image (name_at l.image l.at)) (steps l.start 0 l.count)

abbrev pub decreases-loop-k : goal.decreases-loop-k
decreases-loop-k l = l.count - l.k
