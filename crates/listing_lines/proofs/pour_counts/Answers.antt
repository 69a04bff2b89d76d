-- The pieces of the line are poured in order, each behind the text of those before.
use Rattle.model.specs.Text.{text}
use Rattle.listing_lines.proofs.Pieces.{counts_poured}
use Rattle.listing_lines.proofs.pour_counts.Goals as goal

pub returns : goal.returns
unfolding text
returns c =
    let free = c in
    let pages = free in
    counts_poured _ _ _ pages.pour-sink.ensures pages.pour_decimal-sink.ensures
    free.pour-sink-2.ensures free.pour_decimal-sink-2.ensures c.pour_byte.ensures
