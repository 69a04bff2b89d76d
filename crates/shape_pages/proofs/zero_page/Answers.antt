-- `zero_page` lends the page alone, and what comes back stands in its place.
use Rattle.fields.proofs.Plain.{refl, ◌+◌, arith}
use Rattle.volume.proofs.Lent.{lent_zeroed}
use Rattle.shape_pages.proofs.zero_page.Goals as goal

pub returns : goal.returns
returns c =
    let s = c in
    let first = c.first_byte-first in
    lent_zeroed first.result (first.result + s.args.shape.size) _ s.args.shape.size _ _ first.ensures refl (omega (arith, s.requires, first.ensures))
    c.zero.ensures
