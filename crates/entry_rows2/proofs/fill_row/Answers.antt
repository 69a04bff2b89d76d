-- The fields are put at their places among 32 zeros.
use Rattle.fields.proofs.Plain.{◌≡◌, sym, ◌∙◌, ap, arith, length, length-set}
use Rattle.entry_rows2.proofs.RowBytes.{filled_row}
use Rattle.entry_rows2.proofs.fill_row.Goals as goal

pub bounds-part-2 : goal.bounds-part-2
bounds-part-2 c = let long = c.zero.auto.part in simp length-set (omega (arith, long, c.requires.0))

pub copy_in-requires : goal.copy_in-requires
copy_in-requires c =
    let four : length c.size_bytes-sized.result ≡ 4 = ap length c.size_bytes-sized.ensures in
    let long = c.zero.auto.part in simp length-set (omega (arith, four, long, c.requires.0))

pub copy_in-requires-2 : goal.copy_in-requires-2
copy_in-requires-2 c =
    let sized : length c.copy_in.new.part ≡ 32 = c.copy_in.auto.part ∙ simp length-set c.zero.auto.part ∙ c.requires.0 in
    omega (arith, sized)

pub copy_in-requires-3 : goal.copy_in-requires-3
copy_in-requires-3 c =
    let sized : length c.copy_in.new.part ≡ 32 = c.copy_in.auto.part ∙ simp length-set c.zero.auto.part ∙ c.requires.0 in
    let dated : length c.copy_in-2.new.part ≡ 32 = c.copy_in-2.auto.part ∙ sized in
    omega (arith, dated)

pub shape_of-part : goal.shape_of-part
shape_of-part c =
    let sized : length c.copy_in.new.part ≡ 32 = c.copy_in.auto.part ∙ simp length-set c.zero.auto.part ∙ c.requires.0 in
    let dated : length c.copy_in-2.new.part ≡ 32 = c.copy_in-2.auto.part ∙ sized in
    c.copy_in-3.auto.part ∙ dated ∙ sym c.requires.0

pub returns : goal.returns
returns c = search filled_row
