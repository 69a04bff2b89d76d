-- The header, the files and the others are the order, one behind the other.
use Rattle.proposals.proofs.Owned.{sized}
use Rattle.proposals.proofs.Numbers.{order_long, order_numbered}
use mathlib.Core.Path.{◌∙◌}
use Prim.Native.Nat.{ℕ}
use native.Mathlib.Omega.{arith}
use lib.ListN.{length-set}
use Rattle.tidy.proofs.number_pages.Goals as goal

pub bounds-row-0 : goal.bounds-row-0
bounds-row-0 c = let s = sized c.requires.0 in omega (arith, s.low, c.requires.1)

pub number_others-requires : goal.number_others-requires
number_others-requires c =
    let number-files = c in
    let start = number-files in
    let s = sized start.requires.0 in (
      start.requires.0,
      number-files.number_files-next.auto.row ∙ length-set {A = ℕ} start.args.row.now 0 0 ∙ start.requires.1,
      omega
          (arith, number-files.number_files-next.ensures.value, order_long start.args.image.now start.requires.0.is_sound, s.high),
    )

pub shape_of-row : goal.shape_of-row
shape_of-row c =
    let number-others = c in
    let number-files = number-others in
    let start = number-files in
    number-others.number_others.auto.row ∙ number-files.number_files-next.auto.row ∙ length-set {A = ℕ} start.args.row.now 0 0

pub returns : goal.returns
returns c =
    let number-others = c in
    let number-files = number-others in
    order_numbered _ _ _ _ _ number-files.number_files-next.ensures.value number-files.number_files-next.ensures.row_after number-others.number_others.ensures
