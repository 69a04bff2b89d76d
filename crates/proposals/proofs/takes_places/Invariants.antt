use Rattle.proposals.specs.Steps.{takes}
use mathlib.Core.Path.{◌≡◌}
use lib.ListN.{length, drop}
use Rattle.proposals.proofs.takes_places.Given as goal

abbrev pub invariant-loop-place : goal.invariant-loop-place
invariant-loop-place l = (length l.seen ≡ length l.initial.seen) × (takes (drop l.place-index l.places) l.seen ≡ takes l.places l.initial.seen)
