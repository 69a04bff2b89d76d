-- The four tests are those of `accepted`: the second is each number once, the third, by the law that the function names, page 0, and the last the
-- neighbours, by the links alone.
use Rattle.judge.proofs.Image.{marks_length, marks_fresh}
use Rattle.claims.proofs.Claims.{told, untold}
use Rattle.proposals.specs.Steps.{takes}
use Rattle.proposals.proofs.Owned.{fits, sized}
use Rattle.proposals.proofs.Check.{true_of, not_many, not_taken, accepted_rest}
use mathlib.Core.Path.{sym, ap, ◌∙◌}
use native.Mathlib.Omega.{arith}
use Rattle.proposals.proofs.is_accepted.Goals as goal

pub returns-then-places-n : goal.returns-then-places-n
returns-then-places-n c = not_many _ _ (λ e. c.if-places-n.true (e ∙ sym c.page_count-n.ensures))

pub slice_bounds-seen-end : goal.slice_bounds-seen-end
slice_bounds-seen-end c = let s = sized c.requires in omega (arith, s.high, c.page_count-n.ensures)

pub slice_bounds-takes_places-end : goal.slice_bounds-takes_places-end
slice_bounds-takes_places-end c =
    let page-count = c in
    let start = page-count in
    marks_length start.args.image.now _ page-count.page_count-n.ensures (true_of (fits start.requires))

pub returns-then-not-takes_places : goal.returns-then-not-takes_places
returns-then-not-takes_places c =
    let takes-places = c in
    let page-count = takes-places in
    let start = page-count in
    not_taken _ _ (ap (takes start.args.places.now) (sym (marks_fresh start.args.image.now _ page-count.page_count-n.ensures (true_of (fits start.requires))).1) ∙ untold
    takes-places.takes_places.ensures c.if-not-takes_places.true-raw)

pub bounds-places-0 : goal.bounds-places-0
bounds-places-0 c =
    let if1 = c in
    let page-count = if1 in
    let start = page-count in
    let s = sized start.requires in
    omega (arith, s.low, page-count.page_count-n.ensures, if1.if-places-n.false)

pub returns : goal.returns
returns c =
    let if3 = c in
    let if2 = if3 in
    let takes-places = if2 in
    let if1 = takes-places in
    let page-count = if1 in
    let start = page-count in
    c.all_lead_on.ensures ∙ accepted_rest _ _ start.requires.is_sound (if1.if-places-n.false ∙ page-count.page_count-n.ensures)
    (ap (takes start.args.places.now) (sym (marks_fresh start.args.image.now _ page-count.page_count-n.ensures (true_of (fits start.requires))).1) ∙ told
    takes-places.takes_places.ensures if2.if-not-takes_places.false-raw) (omega arith)
