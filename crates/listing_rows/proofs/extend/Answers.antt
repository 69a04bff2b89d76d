-- The slash and the name stand behind the directory's path, which is not written to.
use Rattle.fields.proofs.Plain.{◌∙◌, ◌+◌, ◌-◌, arith, drop, length-set}
use lib.ListN.{length-drop}
use lib.Seq.{length-take-le}
use Rattle.listing_rows.proofs.Paths.{extended}
use Rattle.listing_rows.proofs.extend.Goals as goal

pub copy_in-requires : goal.copy_in-requires
copy_in-requires c =
    let a = c.args in
    let e = c.name_end-to.ensures in
    let long = length-take-le (c.name_end-to.result - (a.at + 1)) (drop (a.at + 1) a.image.now)
    (omega (arith, e.high, length-drop (a.at + 1) a.image.now)) in
    simp length-set (omega (arith, e.high, long))

pub shape_of-path : goal.shape_of-path
shape_of-path c = c.copy_in.auto.part ∙ simp length-set

pub returns : goal.returns
returns c =
    let copied = c.copy_in in
    let a = c.args in
    extended _ a.at _ _ _ _ (omega arith) (omega arith) c.name_end-to.ensures copied.ensures
