use Rattle.listing_rows.proofs.Paths.{Searched}
use Rattle.listing_rows.proofs.name_end.Given as goal

abbrev pub invariant-loop-to : goal.invariant-loop-to
invariant-loop-to l = Searched l.image l.at l.to
