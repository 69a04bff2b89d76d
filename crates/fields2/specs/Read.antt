-- How large the numbers of an entry of version 2 are.
use Rattle.std.specs.Prelude.{◌<◌}
use Rattle.fields.specs.declared.Entry.{Entry}
use Rattle.fields.specs.declared.Entry.TheVariants.{Vacant, File, Directory}

-- the start page is two bytes, and the size four
abbrev pub Small : Entry → Type 0
Small Vacant = Unit {0}
Small (File start size) = (start.0 < 65536) × (size < 4294967296)
Small (Directory start size) = (start.0 < 65536) × (size < 4294967296)
