use Rattle.fields.proofs.Plain.{◌≡◌, ◌≤◌}
use Rattle.model.specs.Entry.{name_at}
use Rattle.fresh.specs.Earlier.{position}
use Rattle.fresh.proofs.Names.{apart}
use Rattle.fresh.proofs.name_is_fresh.Given as goal

abbrev pub invariant-loop-j : goal.invariant-loop-j
invariant-loop-j l = let name = name_at l.image (position l.directory.0 l.i) in
    (l.j ≤ l.i) × (apart l.image name l.directory.0 l.i ≡ apart l.image name l.directory.0 l.j)

abbrev pub decreases-loop-j : goal.decreases-loop-j
decreases-loop-j l = l.j
