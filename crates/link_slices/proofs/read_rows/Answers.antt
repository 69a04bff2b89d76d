-- What is found is right for the list that was lent.
use Rattle.outcomes.proofs.Exits.{told_on}
use mathlib.Core.Path.{refl, sym, ◌∙◌}
use lib.Seq.{length-take-le}
use Rattle.link_slices.proofs.read_rows.Goals as goal

pub returns-in_err-found : goal.returns-in_err-found
returns-in_err-found c = let right = c.in_err-found.ensures c.args.rows.now refl in (told_on _ _ _ _ c.from_residual.ensures.1 right.0, right.1)

pub slice_bounds-file-end : goal.slice_bounds-file-end
slice_bounds-file-end c = c.in_ok-found.ensures.inside

pub slice_bounds-place_rows-end : goal.slice_bounds-place_rows-end
slice_bounds-place_rows-end c = sym (length-take-le _ _ c.in_ok-found.ensures.inside)

pub place_rows-requires : goal.place_rows-requires
place_rows-requires c = c.in_ok-found.ensures.few

pub returns : goal.returns
returns c =
    let right = c.in_ok-found.ensures.right c.args.rows.now refl in
    (right.0, c.place_rows.ensures ∙ right.1)
