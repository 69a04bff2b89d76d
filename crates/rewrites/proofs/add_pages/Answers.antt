-- `add_pages` grows the chain at its joint, and does nothing where no page is to be added.
use Rattle.volume.proofs.Claiming.{claiming_none}
use Rattle.rewrites.proofs.Adding.{grown_at}
use Rattle.rewrites.proofs.add_pages.Goals as goal

pub returns-then-count-eq0 : goal.returns-then-count-eq0
returns-then-count-eq0 c = claiming_none _ _ _ _ _ c.if-count-eq0.true

pub joint_of-joint-requires : goal.joint_of-joint-requires
joint_of-joint-requires c = let p = c.requires in (p.entry, p.pages)

pub grow_unzeroed-requires : goal.grow_unzeroed-requires
grow_unzeroed-requires c = c.requires.growing _ c.joint_of-joint.ensures

pub returns : goal.returns
returns c = grown_at _ _ _ c.joint_of-joint.ensures c.grow_unzeroed.ensures
