-- `name_owners` lends the first N numbers of the row, the header's among them; behind them nobody owns a page.
use Rattle.fields.proofs.Plain.{rules}
use Rattle.owner_rows.proofs.Named.{zeros_first, lent_fits, lent_long, lent_row, lent_same, lent_named}
use Rattle.owner_rows.proofs.name_owners.Goals as goal

pub bounds-row-0 : goal.bounds-row-0
bounds-row-0 c = let l = zeros_first c.requires.zeros in search rules

pub slice_bounds-give_pages-end : goal.slice_bounds-give_pages-end
slice_bounds-give_pages-end c =
    let start = c in
    let l = lent_fits start.args.image.now start.requires.is_sound c.page_count-n.ensures start.requires.zeros in search rules

pub slice_bounds-give_pages-end-2 : goal.slice_bounds-give_pages-end-2
slice_bounds-give_pages-end-2 c =
    let start = c in
    let l = lent_long start.args.image.now start.requires.is_sound c.page_count-n.ensures start.requires.zeros in search rules

pub give_pages-requires : goal.give_pages-requires
give_pages-requires c =
    let start = c in
    lent_row start.args.image.now start.requires.is_sound c.page_count-n.ensures start.requires.zeros

pub shape_of-row : goal.shape_of-row
shape_of-row c =
    let called = c in
    let counted = called in
    let start = counted in
    let e = lent_same start.args.image.now start.requires.is_sound counted.page_count-n.ensures start.requires.zeros called.give_pages.ensures in search rules

pub returns : goal.returns
returns c =
    let called = c in
    let counted = called in
    let start = counted in
    lent_named start.args.image.now start.requires.is_sound counted.page_count-n.ensures start.requires.zeros called.give_pages.ensures
