-- `add_pages` grows the chain at the link of its last page, and does nothing where no page is to be added.
use Rattle.volume.proofs.Claiming.{claiming_none}
use Rattle.changes2.proofs.Growths.{growing_at, grown_at}
use Rattle.changes2.proofs.add_pages.Goals as goal

pub returns-then-count-eq0 : goal.returns-then-count-eq0
returns-then-count-eq0 c = claiming_none _ _ _ _ _ c.if-count-eq0.true

pub grow_unzeroed-requires : goal.grow_unzeroed-requires
grow_unzeroed-requires c = let p = c.requires in (growing_at c.last_link-joint.ensures p.3, p.2)

pub returns : goal.returns
returns c = grown_at _ _ _ _ c.last_link-joint.ensures c.grow_unzeroed.ensures
