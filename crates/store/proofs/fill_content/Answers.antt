-- The buffer is zeroed, then the link is set and the content copied behind it: what the content has for the page, which fits.
use Rattle.store.proofs.Pages.{fill_fits, fill_long, fill_is}
use Rattle.store.proofs.fill_content.Goals as goal

pub copy_in-requires : goal.copy_in-requires
copy_in-requires c = search fill_fits

pub shape_of-buffer : goal.shape_of-buffer
shape_of-buffer c = search fill_long

pub returns : goal.returns
returns c = search fill_is
