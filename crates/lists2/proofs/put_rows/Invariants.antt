use Rattle.lists2.proofs.Turns.{Putting}
use Rattle.lists2.proofs.put_rows.Given as goal

abbrev pub invariant-loop-i : goal.invariant-loop-i
invariant-loop-i l = Putting l.shape l.pages l.image l.count l.initial.cursor l.initial.rows l.cursor l.i l.rows
