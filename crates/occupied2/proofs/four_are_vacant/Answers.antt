-- `four_are_vacant` asks each of the four.
use Rattle.fields.proofs.Plain.{ap₂}
use mathlib.Core.Bool.{◌&&◌}
use Rattle.occupied2.proofs.four_are_vacant.Goals as goal

pub returns : goal.returns
returns c = ap₂ ◌&&◌ (ap₂ ◌&&◌ (ap₂ ◌&&◌ c.is_vacant.ensures c.is_vacant-2.ensures) c.is_vacant-3.ensures) c.is_vacant-4.ensures
