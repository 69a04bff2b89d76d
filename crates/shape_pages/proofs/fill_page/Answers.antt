-- `fill_page` lends the page alone, and what comes back stands in its place.
use Rattle.fields.proofs.Plain.{refl, ◌+◌, arith}
use Rattle.volume.proofs.Lent.{lent_filled}
use Rattle.shape_pages.proofs.fill_page.Goals as goal

pub returns : goal.returns
returns c =
    let s = c in
    let first = c.first_byte-first in
    lent_filled first.result (first.result + s.args.shape.size) _ s.args.shape.size s.args.image.now _ first.ensures refl
    (omega (arith, s.requires.0, first.ensures)) s.args.offset s.args.source.now s.requires.1 c.copy_piece.ensures
