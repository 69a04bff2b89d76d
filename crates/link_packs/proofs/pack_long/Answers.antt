-- A file that has no room here has none in any image.
use mathlib.Core.Path.{refl}
use Rattle.link_judge.specs.Judged.{rows_of}
use Rattle.link_packs.proofs.Packing.{packed_or}
use Rattle.link_packs.proofs.pack_long.Goals as goal

pub returns : goal.returns
returns c = rw c.unwrap_or.ensures (packed_or c.args.judged (rows_of c.args.numbers.now) _ c.pack.new.bytes c.pack.result c.pack.ensures c.requires.1 c.pack.auto.bytes _ refl)
