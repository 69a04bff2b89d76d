-- `audit_row` is the visit, and then the marks and the count.
use Rattle.fields.proofs.Plain.{arith, rules, ◌≤◌}
use Rattle.model.specs.Layout.{page_count}
use Rattle.audit.proofs.Marks.{free_first, row_stops, row_long, row_goes}
use Rattle.audit.proofs.audit_row.Goals as goal

pub visit_directories-requires : goal.visit_directories-requires
visit_directories-requires c =
    let start = c in
    let l : 1 ≤ page_count start.args.image.now = omega (arith, start.requires.2) in
    (start.requires.0, rw start.requires.1 (free_first _ l), search rules)

pub returns-then-not-visit_directories : goal.returns-then-not-visit_directories
returns-then-not-visit_directories c = search row_stops

pub is_marked-requires : goal.is_marked-requires
is_marked-requires c = (search row_long, omega arith)

pub returns : goal.returns
returns c = search row_goes
