-- The judging says whether there is a file, and the packing whether it has room.
use native.Mathlib.Omega.{arith}
use mathlib.Core.Path.{sym, ap, ◌∙◌}
use Rattle.link_judge.specs.Judged.{list_told, rows_of}
use Rattle.link_packs.proofs.Packing.{packs_to, unpacked}
use Rattle.link_packs.proofs.pack.Goals as goal

pub pack_numbers-requires : goal.pack_numbers-requires
pack_numbers-requires c = sym c.requires ∙ ap list_told c.in-Ok.is

pub returns-in-Ok : goal.returns-in-Ok
returns-in-Ok c = packs_to c.args.judged (rows_of c.args.numbers.now) c.requires c.args.bytes.now c.pack_numbers.new.bytes c.pack_numbers.auto.bytes c.pack_numbers.result c.pack_numbers.ensures

pub returns-in-Err : goal.returns-in-Err
returns-in-Err c = (omega arith, unpacked c.args.judged (rows_of c.args.numbers.now) c.requires _ (ap list_told c.in-Err.is) _)
