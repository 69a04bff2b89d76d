-- The code of what the call answers, which is what the link list answers; a refusal of it fits its code.
use Rattle.link_list.specs.Links.{write_links}
use Rattle.link_codes.proofs.Fits.{link_fits, link_coded}
use Rattle.c_links.proofs.write.Goals as goal

pub done_code-requires : goal.done_code-requires
done_code-requires c = link_fits (write_links _ _ _) _ c.write.ensures.result_value

pub returns : goal.returns
returns c = record { value = link_coded c.done_code.ensures c.write.ensures.result_value; image_after = c.write.ensures.image_after }
