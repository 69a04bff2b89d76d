use Rattle.model.specs.Entry.{entry_count}
use Rattle.fields.proofs.Searches.{Sought}
use Rattle.vacancies.proofs.Vacancies.{vacancy}
use Rattle.fields.proofs.Plain.{◌≡◌, ◌-◌}
use Rattle.vacancies.proofs.vacant_entry.Given as goal

abbrev pub invariant-loop-lowest : goal.invariant-loop-lowest
invariant-loop-lowest l = (l.lowest-end ≡ entry_count l.directory.0) × Sought (vacancy l.image) l.directory.0 l.lowest

abbrev pub decreases-loop-lowest : goal.decreases-loop-lowest
decreases-loop-lowest l = l.lowest-end - l.lowest
