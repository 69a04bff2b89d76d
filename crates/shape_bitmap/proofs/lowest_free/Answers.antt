-- `lowest_free` searches from the first byte on: no page is before it.
use Rattle.shape_bitmap.proofs.Search.{before_first}
use Rattle.shape_bitmap.proofs.lowest_free.Goals as goal

pub lowest_free_from-requires : goal.lowest_free_from-requires
lowest_free_from-requires c = (c.requires, before_first _ _ _)
