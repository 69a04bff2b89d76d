-- The pieces of the line are poured in order, each behind the text of those before.
use Rattle.model.specs.Text.{text}
use Rattle.listing_lines.proofs.Pieces.{line_poured}
use Rattle.listing_lines.proofs.pour_line.Goals as goal

pub returns : goal.returns
unfolding text
returns c = search line_poured
