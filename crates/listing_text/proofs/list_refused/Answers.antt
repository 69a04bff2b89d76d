-- The word, the number of the refusal and the end of the line are poured in order.
use Rattle.model.specs.Text.{text}
use Rattle.listing_text.proofs.Images.{refused_poured}
use Rattle.listing_text.proofs.list_refused.Goals as goal

pub returns : goal.returns
unfolding text
returns c = search refused_poured
