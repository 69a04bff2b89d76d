-- A vacant entry has no name; an occupied one has that of its bytes.
use Rattle.fields.proofs.Plain.{◌∙◌}
use Rattle.model.specs.Sound.{same_name}
use Rattle.claims.proofs.Claims.{read_as}
use Rattle.claims.proofs.Names.{named_same}
use Rattle.claims.proofs.have_one_name.Goals as goal

pub returns-in-Vacant : goal.returns-in-Vacant
unfolding same_name
returns-in-Vacant c = rw (← read_as _ _ c.entry_at-one.ensures.0 c.in-Vacant.is)

pub returns : goal.returns
unfolding same_name
returns c =
    c.has_name_of.ensures ∙ named_same _ _ c.entry_at-one.result c.entry_at-one.ensures.0
    c.in_default.not-Vacant _
