use Rattle.link_rows.specs.Told.{steps_from, numbers_of}
use Rattle.volume.specs.Bytes.{put}
use mathlib.Core.Path.{◌≡◌}
use Prim.Native.Nat.{◌*◌, ◌-◌}
use lib.ListN.{length}
use Rattle.link_rows.proofs.place_numbers.Given as goal

abbrev pub invariant-loop-i : goal.invariant-loop-i
invariant-loop-i l = (length l.numbers ≡ length l.initial.numbers) × (put (3 * l.i) (numbers_of (steps_from l.file (l.count - l.i) l.at)) l.numbers ≡ put 0 (numbers_of (steps_from l.file l.count 0)) l.initial.numbers)
