use Rattle.fields.proofs.Plain.{◌≡◌, ◌-◌, length}
use Rattle.volume.specs.Lists.{all, up_to}
use Rattle.model.specs.Layout.{page_count}
use Rattle.agreement.specs.Marked.{agrees}
use Rattle.agreement.proofs.Marks.{all_from}
use Rattle.agreement.proofs.pages_agree.Given as goal

abbrev pub invariant-loop-p : goal.invariant-loop-p
invariant-loop-p l = all (agrees l.image l.row) (up_to (page_count l.image)) ≡ all_from (agrees l.image l.row) (length l.row) l.p

abbrev pub decreases-loop-p : goal.decreases-loop-p
decreases-loop-p l = length l.row - l.p
