-- A directory has at most as many pages as there are marks.
use Rattle.owning2.proofs.Owning.{all_pages}
use Rattle.owning2.proofs.own_directory.Goals as goal

pub returns : goal.returns
returns c = search all_pages
