-- What is copied is a page long, and so is the buffer: all of it is put over.
use Rattle.store.proofs.Pages.{page_copied}
use Rattle.store.proofs.copy_page.Goals as goal

pub returns : goal.returns
returns c = search page_copied
