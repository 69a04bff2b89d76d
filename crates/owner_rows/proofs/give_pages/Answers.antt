-- `give_pages` lends the walk a list of its own.
use Rattle.fields.proofs.Plain.{arith, rules, ◌≤◌}
use Rattle.model.specs.Layout.{page_count}
use Rattle.audit.proofs.Marks.{free_first}
use Rattle.owner_rows.proofs.give_pages.Goals as goal

pub give_directories-requires : goal.give_directories-requires
give_directories-requires c =
    let start = c in
    let l : 1 ≤ page_count start.args.image.now = omega (arith, start.requires.2) in
    (start.requires.0, rw start.requires.1 (free_first _ l), search rules, start.requires.3)
