-- `push_directories` puts one directory a turn behind those before it; what was found before stays.
use Rattle.fields.proofs.Plain.{rules}
use Rattle.claims.proofs.Names.{pushes_first, finds_room, pushes_one, pushes_none, pushes_last}
use Rattle.claims.proofs.push_directories.Goals as goal
use Rattle.claims.proofs.push_directories.Goals.{in-Directory, in_default}

pub loop-i-init : goal.loop-i-init
loop-i-init c = search pushes_first

pub bounds-list-end : goal.bounds-list-end
bounds-list-end c = search finds_room

pub offset_bounds-list-end : goal.offset_bounds-list-end
offset_bounds-list-end c = let l = bounds-list-end c in search rules

pub overflow_add-end : goal.overflow_add-end
overflow_add-end c = let l = bounds-list-end c in search rules

pub loop-i-preserved : goal.loop-i-preserved
loop-i-preserved c =
    elim c.match-entry.branch [ in-Directory w ↦ rw (w.list-is, w.end-is) (search pushes_one) | in_default w ↦ rw (w.list-is, w.end-is) (search pushes_none) ]

pub returns : goal.returns
returns c = pushes_last _ _ _ _ c.entry_count-count.ensures c.loop-i-test.false c.loop-i.invariant
