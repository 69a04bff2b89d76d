-- The page of a place is one of the image, and its bit 0 or 1.
use Rattle.volume.proofs.Marks.{bit_low}
use Rattle.model.specs.Layout.{version1, page_bit}
use Rattle.laws.proofs.Facts.{valid_sized}
use native.Mathlib.Omega.{arith}
use mathlib.Core.Path.{ap, ◌∙◌}
use Rattle.targets.proofs.place_bit.Goals as goal

pub bit-requires : goal.bit-requires
bit-requires c =
    let start = c in
    let s = valid_sized start.args.image.now start.requires.2 in
    omega (arith, s.whole, s.low, s.high, start.requires.0.low start.args.q, c.from.ensures)

pub returns : goal.returns
returns c =
    let start = c in
    (c.bit.ensures ∙ ap (page_bit start.args.image.now) c.from.ensures, omega (arith, c.bit.ensures, bit_low version1 start.args.image.now c.from.result))
