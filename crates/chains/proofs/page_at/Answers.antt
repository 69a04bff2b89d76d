-- `page_at`: each page below N lies in the image with its link.
use Rattle.chains.proofs.Asked.{inside}
use Rattle.chains.proofs.page_at.Goals as goal

pub page_at-requires : goal.page_at-requires
page_at-requires c = let s = c in inside s.args.image.now s.args.index s.args.start.0 s.requires
