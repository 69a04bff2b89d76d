use Rattle.fields.proofs.Plain.{◌≡◌, ◌+◌, ◌-◌, ◌<◌}
use Rattle.model.specs.Entry.{entry_at}
use Rattle.claims.specs.Lent.{position, rest, apart}
use Rattle.claims.proofs.name_is_last.Given as goal

abbrev pub invariant-loop-j : goal.invariant-loop-j
invariant-loop-j l = let e = entry_at l.image (position l.directory.0 l.i) in
    (l.i < l.j) × (apart l.image e (rest l.directory.0 (l.i + 1)) ≡ apart l.image e (rest l.directory.0 l.j))

abbrev pub decreases-loop-j : goal.decreases-loop-j
decreases-loop-j l = l.count - l.j
