-- Behind page 0 stands none, or the first of the root's own pages.
use Rattle.owning2.proofs.Pages.{link_lies, some_page}
use Rattle.owning2.proofs.Owning.{root_alone, root_more}
use Rattle.owning2.proofs.own_root.Goals as goal

pub link-first-requires : goal.link-first-requires
link-first-requires c = search (link_lies, some_page)

pub returns-then-first-eq0 : goal.returns-then-first-eq0
returns-then-first-eq0 c = search root_alone

pub overflow_sub-n : goal.overflow_sub-n
overflow_sub-n c = search some_page

pub returns : goal.returns
returns c = search root_more
