-- `list_directory` lists one entry a turn, and what is left to list leads to the same window as all of it. `list_entry` writes the entry's path
-- behind the directory's, its line into the window and, for a directory, lists that one to the depth that is left; so the depth falls.
use lib.Seq.{length-take-le}
use Rattle.model.specs.Text.{text}
use Rattle.fields.proofs.Plain.{rules, arith, refl, sym, ◌∙◌}
use Rattle.listing_rows.proofs.Rows.{leads_none, leads_first, leads_next, leads_last}
use Rattle.listing_rows.proofs.Rows.{entry_readable, vacant_poured, file_poured, directory_poured, below_inside, below_readable, front_kept}
use Rattle.listing_rows.proofs.+list_directory_list_entry.Goals as goal

pub list_directory-returns-then-depth-eq0 : goal.list_directory-returns-then-depth-eq0
unfolding text
list_directory-returns-then-depth-eq0 t c = (search leads_none, refl)

pub list_directory-loop-i-init : goal.list_directory-loop-i-init
unfolding text
list_directory-loop-i-init t c = (search rules, refl, refl, refl, search leads_first)

pub list_directory-list_entry-listed-requires : goal.list_directory-list_entry-listed-requires
unfolding text
list_directory-list_entry-listed-requires t c = (omega arith, (omega arith, search entry_readable, omega arith))

pub list_directory-loop-i-preserved : goal.list_directory-loop-i-preserved
unfolding text
list_directory-loop-i-preserved t c =
    let test = c in
    let l = test.loop-i in
    let at = c.entry_position-at in
    let e = c.list_entry-listed in (
      search rules,
      e.auto.path ∙ l.invariant.1,
      e.auto.out ∙ l.invariant.2,
      e.ensures.1 ∙ l.invariant.3,
      leads_next l.invariant.4 test.entry_count-count.ensures test.loop-i-test.true at.ensures.0 l.invariant.3 e.ensures.0,
    )

pub list_directory-shape_of-path : goal.list_directory-shape_of-path
unfolding text
list_directory-shape_of-path t c = c.loop-i.invariant.1

pub list_directory-shape_of-out : goal.list_directory-shape_of-out
unfolding text
list_directory-shape_of-out t c = c.loop-i.invariant.2

pub list_directory-returns : goal.list_directory-returns
unfolding text
list_directory-returns t c = (search leads_last, c.loop-i.invariant.3)

pub list_entry-slice_bounds-pour_line-end-in-File : goal.list_entry-slice_bounds-pour_line-end-in-File
unfolding text
list_entry-slice_bounds-pour_line-end-in-File t c =
    let x = c.extend-end in
    sym (length-take-le x.result x.new.path (omega (arith, x.auto.path, x.ensures.high)))

pub list_entry-slice_bounds-pour_line-end-in-Directory-2 : goal.list_entry-slice_bounds-pour_line-end-in-Directory-2
unfolding text
list_entry-slice_bounds-pour_line-end-in-Directory-2 t c =
    let x = c.extend-end-in-Directory in
    sym (length-take-le x.result x.new.path (omega (arith, x.auto.path, x.ensures.high)))

pub list_entry-list_directory-requires : goal.list_entry-list_directory-requires
unfolding text
list_entry-list_directory-requires t c =
    let x = c.extend-end-in-Directory in
    (omega arith, (search below_inside, search below_readable, omega (arith, x.auto.path, x.ensures.high)))

pub list_entry-returns-in-Vacant : goal.list_entry-returns-in-Vacant
unfolding text
list_entry-returns-in-Vacant t c = (search vacant_poured, refl)

pub list_entry-returns-in-File : goal.list_entry-returns-in-File
unfolding text
list_entry-returns-in-File t c = (search file_poured, c.extend-end.ensures.front)

pub list_entry-returns-in-Directory : goal.list_entry-returns-in-Directory
unfolding text
list_entry-returns-in-Directory t c = (search directory_poured, search front_kept)
