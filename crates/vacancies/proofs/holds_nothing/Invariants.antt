use Rattle.model.specs.Entry.{entry_count}
use Rattle.fields.proofs.Searches.{Tested}
use Rattle.vacancies.proofs.Vacancies.{vacancy}
use Rattle.fields.proofs.Plain.{◌≡◌, ◌-◌}
use Rattle.vacancies.proofs.holds_nothing.Given as goal

abbrev pub invariant-loop-i : goal.invariant-loop-i
invariant-loop-i l = (l.i-end ≡ entry_count l.directory.0) × Tested (vacancy l.image) l.directory.0 l.i

abbrev pub decreases-loop-i : goal.decreases-loop-i
decreases-loop-i l = l.i-end - l.i
