-- A row of N numbers is numbered by the order; any other is refused.
use Rattle.moves.proofs.Answers.{propose_long, propose_granted}
use mathlib.Core.Path.{sym, ◌∙◌}
use Rattle.tidy.proofs.propose_sound.Goals as goal

pub returns-then-places-page_count : goal.returns-then-places-page_count
returns-then-places-page_count c =
    let whole = propose_long _ _ c.requires.is_sound (λ e. c.if-places-page_count.true (e ∙ sym c.page_count.ensures)) in
    record { result_value = whole.0; places_after = whole.1 }

pub returns : goal.returns
returns c =
    let number-pages = c in
    let test = number-pages in
    let start = c in
    let r = propose_granted start.args.image.now start.args.places.now start.requires.is_sound (test.if-places-page_count.false ∙ test.page_count.ensures) in
    record { result_value = r.0; places_after = number-pages.number_pages.ensures ∙ r.1 }
