-- The row has 0 where nobody owns the page, and else the position of the entry that does.
use Rattle.proposals.proofs.Owned.{owner_there, owner_none, owner_inside, owner_read}
use mathlib.Core.Path.{◌∙◌}
use Rattle.proposals.proofs.owner_entry.Goals as goal

pub bounds-owners-p : goal.bounds-owners-p
bounds-owners-p c = owner_there c.requires.0 c.requires.2

pub returns-then-at-eq0 : goal.returns-then-at-eq0
returns-then-at-eq0 c =
    let start = c in
    (owner_none start.requires.0 start.requires.1 start.requires.2 c.if-at-eq0.true, tt)

pub entry_at-requires : goal.entry_at-requires
entry_at-requires c =
    let start = c in
    owner_inside start.requires.0 start.requires.1 start.requires.2 c.if-at-eq0.false

pub returns : goal.returns
returns c =
    let if1 = c in
    let start = if1 in
    (c.entry_at.ensures.0 ∙ owner_read start.requires.0 start.requires.1 start.requires.2 if1.if-at-eq0.false, c.entry_at.ensures.1)
