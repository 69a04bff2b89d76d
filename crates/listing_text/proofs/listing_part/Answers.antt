-- The listing was poured into a window of which nothing was filled yet.
use Rattle.fields.proofs.Plain.{ap, ◌∙◌}
use Rattle.model.specs.Listing.{listing}
use Rattle.listing_lines.specs.Window.{Window}
use Rattle.listing_lines.proofs.Windows.{first_window}
use Rattle.listing_text.proofs.listing_part.Goals as goal

pub returns : goal.returns
returns c =
    let a = c.args in
    let e = c.list_image-listed.ensures ∙ first_window (listing a.image.now) a.from a.out.now in
    (ap (λ (w : Window). w.done) e, ap (λ (w : Window). w.buffer) e)
