-- The code of what the call answers, which is what the link list answers; a refusal of it fits its code.
use Rattle.link_list.specs.Links.{check_links}
use Rattle.link_codes.proofs.Fits.{link_fits, link_coded}
use Rattle.c_links.proofs.check.Goals as goal

pub done_code-requires : goal.done_code-requires
done_code-requires c = link_fits (check_links _) _ c.check.ensures

pub returns : goal.returns
returns c = link_coded c.done_code.ensures c.check.ensures
