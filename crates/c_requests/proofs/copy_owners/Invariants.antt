use Rattle.c_requests.proofs.Rows.{Copied}
use Rattle.c_requests.proofs.copy_owners.Given as goal

abbrev pub invariant-loop-p : goal.invariant-loop-p
invariant-loop-p l = Copied l.from l.to l.p
