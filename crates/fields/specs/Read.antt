-- The values of the code's enum `Entry`: what each case is in the model, with the name and the date that stand beside it.
use Rattle.std.specs.Prelude.{◌<◌, Bool}
use Rattle.volume.specs.Bytes.{Bytes}
use Rattle.model.specs.Entry as Model
use Rattle.fields.specs.declared.Entry.{Entry}
use Rattle.fields.specs.declared.Entry.TheVariants.{Vacant, File, Directory}

abbrev pub entry_of : Entry → (locked : Bool) (name date : Bytes) → Model.Entry
entry_of Vacant locked name date = Model.vacant
entry_of (File start size) locked name date = Model.a_file locked name date start.0 size
entry_of (Directory start size) locked name date = Model.a_directory name date start.0 size

-- the start page is a byte, and the size two
abbrev pub Small : Entry → Type 0
Small Vacant = Unit {0}
Small (File start size) = (start.0 < 256) × (size < 65536)
Small (Directory start size) = (start.0 < 256) × (size < 65536)
