use Rattle.link_list.specs.Coding.{accession}
use Rattle.volume.specs.Bytes.{put}
use mathlib.Core.Path.{◌≡◌}
use Prim.Native.Nat.{◌≤◌}
use lib.ListN.{length}
use Rattle.link_numbers.proofs.put_digits.Given as goal

abbrev pub invariant-loop-left : goal.invariant-loop-left
invariant-loop-left l = (l.left ≤ l.count) × (length l.bytes ≡ length l.initial.bytes) × (put l.at (accession l.left l.rest) l.bytes ≡ put l.at (accession l.count l.value) l.initial.bytes)
