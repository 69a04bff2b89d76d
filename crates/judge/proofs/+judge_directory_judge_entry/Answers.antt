-- `judge_directory` judges one entry a turn, and what is left of the walk is judged as all of it. `judge_entry` calls it for a page that got its
-- owner there, so one page fewer has none: twice that number falls from a directory to its entries and from an entry to the directory below.
use Rattle.fields.proofs.Plain.{rules, arith}
use Rattle.faults.proofs.Answers.{told_on}
use Rattle.owning.proofs.Marks.{page_made}
use Rattle.judge.proofs.Walk.{stands_first, stands_next, stands_vacant, stands_faulty, stands_last}
use Rattle.judge.proofs.Walk.{vacant_entry, file_flags, directory_flags, stale_file, fresh_file, stale_directory, sized_directory, faulty_page, directory_below}
use Rattle.judge.proofs.+judge_directory_judge_entry.Goals as goal

pub judge_directory-loop-i-init : goal.judge_directory-loop-i-init
judge_directory-loop-i-init t c = (search rules, search stands_first)

pub judge_directory-loop-i-preserved-in-Vacant : goal.judge_directory-loop-i-preserved-in-Vacant
judge_directory-loop-i-preserved-in-Vacant t c = (search rules, search stands_vacant)

pub judge_directory-returns-in_err-judge_entry : goal.judge_directory-returns-in_err-judge_entry
judge_directory-returns-in_err-judge_entry t c f h =
    told_on _ _ _ c.from_residual.ensures.1
    (stands_faulty c.entry_count-count.ensures c.loop-i.invariant.1 c.loop-i-test.true c.in_err-judge_entry.ensures f h)

pub judge_directory-loop-i-preserved : goal.judge_directory-loop-i-preserved
judge_directory-loop-i-preserved t c =
    (search rules, stands_next c.entry_count-count.ensures c.loop-i.invariant.1 c.loop-i-test.true _ c.in_ok-judge_entry.ensures)

pub judge_directory-returns : goal.judge_directory-returns
judge_directory-returns t c f h = search stands_last

pub judge_entry-name_is_fresh-requires : goal.judge_entry-name_is_fresh-requires
judge_entry-name_is_fresh-requires t c = (omega arith, omega arith, search file_flags)

pub judge_entry-returns-then-not-name_is_fresh : goal.judge_entry-returns-then-not-name_is_fresh
judge_entry-returns-then-not-name_is_fresh t c f h = search stale_file

pub judge_entry-returns-then-size-ne256 : goal.judge_entry-returns-then-size-ne256
judge_entry-returns-then-size-ne256 t c f h = search sized_directory

pub judge_entry-name_is_fresh-requires-in-Directory : goal.judge_entry-name_is_fresh-requires-in-Directory
judge_entry-name_is_fresh-requires-in-Directory t c = (omega arith, omega arith, search directory_flags)

pub judge_entry-returns-then-not-name_is_fresh-2 : goal.judge_entry-returns-then-not-name_is_fresh-2
judge_entry-returns-then-not-name_is_fresh-2 t c f h = search stale_directory

pub judge_entry-returns-in_err-own_page-in-Directory : goal.judge_entry-returns-in_err-own_page-in-Directory
judge_entry-returns-in_err-own_page-in-Directory t c f h = told_on _ _ _ c.from_residual.ensures.1 (search (faulty_page, c.in_err-own_page-in-Directory.ensures))

pub judge_entry-judge_directory-requires : goal.judge_entry-judge_directory-requires
judge_entry-judge_directory-requires t c =
    let pre = c.requires.0 in
    let made = page_made _ _ _ _ _ pre.each c.in_ok-own_page-in-Directory.ensures in
    let long = c.own_page.auto.marks in
    omega arith

pub judge_entry-returns-in-Vacant : goal.judge_entry-returns-in-Vacant
judge_entry-returns-in-Vacant t c f h = search vacant_entry

pub judge_entry-returns-else-not-name_is_fresh : goal.judge_entry-returns-else-not-name_is_fresh
judge_entry-returns-else-not-name_is_fresh t c f h = search fresh_file

pub judge_entry-returns-in_ok-own_page-in-Directory : goal.judge_entry-returns-in_ok-own_page-in-Directory
judge_entry-returns-in_ok-own_page-in-Directory t c f h = search (directory_below, c.in_ok-own_page-in-Directory.ensures, c.judge_directory.ensures)
