-- `last_link` answers the link of the page with the last index.
use Rattle.fields.proofs.Plain.{arith, ap, ◌∙◌, ℕ}
use Rattle.shape.specs.Geometry.{geometry_of}
use Rattle.changes2.proofs.Directories.{inside_before, inside_last}
use Rattle.changes2.proofs.last_link.Goals as goal

pub page_at-last-requires : goal.page_at-last-requires
page_at-last-requires c = inside_before (geometry_of c.args.shape) c.args.image.now c.args.start.0 c.args.k c.requires.0 c.requires.1

pub link_cell-requires : goal.link_cell-requires
link_cell-requires c = omega (arith, inside_last (geometry_of c.args.shape) c.args.image.now c.args.start.0 c.args.k c.requires.0 c.requires.1 c.page_at-last.ensures)

pub returns : goal.returns
returns c = c.link_cell.ensures ∙ ap (λ (p : ℕ). (geometry_of c.args.shape).link p) c.page_at-last.ensures
