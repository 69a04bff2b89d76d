-- What a header is, in the model's words.
use Rattle.std.specs.Prelude.{◌≡◌, length, Result, Ok, Err}
use Rattle.std.proofs.Math.Option.{Option, none, some}
use Rattle.volume.specs.Bytes.{Bytes}
use Rattle.model.specs.Call.{Refusal as Model}
use Rattle.model2.specs.Layout.{page_count, geometry2, code_in}
use Rattle.shape.specs.Geometry.{geometry_of}
use Rattle.shape2.specs.declared.Cartridge.{Cartridge}
use Rattle.refusals2.specs.declared.Refusal.{Refusal}
use Rattle.refusals2.specs.Told.{told}

-- the refusal that a header is
abbrev pub refused_by : Result Cartridge Refusal → Option Model
refused_by (Ok cartridge) = none
refused_by (Err r) = some (told r)

-- the shape of a right one has the image's geometry, and beside it stands N
abbrev pub Shaped : Bytes → Result Cartridge Refusal → Type 0
Shaped b (Ok c) = (geometry_of c.shape ≡ geometry2 (code_in b) (length b)) × (c.pages ≡ page_count (code_in b) (length b))
Shaped b (Err r) = Unit {0}
