-- `is_vacant` tells the cases of the entry that is read, as the model's test does.
use Rattle.vacancies.proofs.Vacancies.{vacant_read, file_read, directory_read}
use Rattle.vacancies.proofs.is_vacant.Goals as goal

pub returns-in-Vacant : goal.returns-in-Vacant
returns-in-Vacant c = search vacant_read

pub returns-in-File : goal.returns-in-File
returns-in-File c = search file_read

pub returns-in-Directory : goal.returns-in-Directory
returns-in-Directory c = search directory_read
