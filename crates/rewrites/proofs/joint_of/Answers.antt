-- `joint_of` answers the field of the start page if there are no pages, and else the link of the page with the last index.
use Rattle.rewrites.proofs.Joints.{joint_none, joint_last, inside_before, inside_at}
use Rattle.fields.proofs.Plain.{arith}
use Rattle.rewrites.proofs.joint_of.Goals as goal

pub returns-then-k-eq0 : goal.returns-then-k-eq0
returns-then-k-eq0 c = search joint_none

pub page_at-last-requires : goal.page_at-last-requires
page_at-last-requires c =
    let s = c in
    inside_before s.args.image.now s.args.start.0 s.args.k s.requires.1 c.if-k-eq0.false

pub first_byte-requires : goal.first_byte-requires
first_byte-requires c =
    let s = c in
    omega (arith, inside_at s.args.image.now s.args.start.0 s.args.k s.requires.1 c.if-k-eq0.false c.page_at-last.ensures)

pub returns : goal.returns
returns c = search joint_last
