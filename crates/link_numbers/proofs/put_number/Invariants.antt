use Rattle.link_numbers.proofs.Puts.{Putting}
use Rattle.link_numbers.proofs.put_number.Given as goal

abbrev pub invariant-loop-rest : goal.invariant-loop-rest
invariant-loop-rest l = Putting l.at l.number l.place l.rest l.initial.bytes l.bytes

abbrev pub decreases-loop-rest : goal.decreases-loop-rest
decreases-loop-rest l = l.rest
