-- `lock_number` tells the mark as the model's number does.
use Rattle.fields.proofs.Plain.{◌∙◌}
use Rattle.codes.specs.Outs.{lock_number}
use Rattle.codes.proofs.Codes.{mark_number}
use Rattle.codes.proofs.lock_number.Goals as goal

pub returns : goal.returns
unfolding lock_number
returns c = c.from.ensures ∙ mark_number c.args.locked
