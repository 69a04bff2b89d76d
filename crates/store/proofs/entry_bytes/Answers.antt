-- The new entry's bytes with the lowest free page as the start; a page is free, so its number is a byte.
use Rattle.store.proofs.Pages.{start_small, entry_started}
use Rattle.store.proofs.entry_bytes.Goals as goal

pub overflow_cast-entry : goal.overflow_cast-entry
overflow_cast-entry c = search start_small

pub returns : goal.returns
returns c = search entry_started
