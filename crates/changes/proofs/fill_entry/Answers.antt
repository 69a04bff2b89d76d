-- `fill_entry` puts flags, name, size and date at their places among 32 zeros.
use Rattle.fields.proofs.Plain.{◌≡◌, sym, ◌∙◌, ap, arith, length, length-set}
use Rattle.changes.proofs.NewBytes.{filled_bytes}
use Rattle.changes.proofs.fill_entry.Goals as goal

pub copy_in-requires : goal.copy_in-requires
copy_in-requires c = let long = c.zero.auto.part in simp length-set (omega arith)

pub copy_in-requires-2 : goal.copy_in-requires-2
copy_in-requires-2 c =
    let named : length c.copy_in.new.part ≡ 32 = c.copy_in.auto.part ∙ simp length-set c.zero.auto.part ∙ c.requires.0 in
    let two : length c.size_bytes-sized.result ≡ 2 = ap length c.size_bytes-sized.ensures in omega (arith, named)

pub copy_in-requires-3 : goal.copy_in-requires-3
copy_in-requires-3 c =
    let named : length c.copy_in.new.part ≡ 32 = c.copy_in.auto.part ∙ simp length-set c.zero.auto.part ∙ c.requires.0 in
    let sized : length c.copy_in-2.new.part ≡ 32 = c.copy_in-2.auto.part ∙ named in
    omega (arith, sized)

pub shape_of-part : goal.shape_of-part
shape_of-part c =
    let named : length c.copy_in.new.part ≡ 32 = c.copy_in.auto.part ∙ simp length-set c.zero.auto.part ∙ c.requires.0 in
    let sized : length c.copy_in-2.new.part ≡ 32 = c.copy_in-2.auto.part ∙ named in
    c.copy_in-3.auto.part ∙ sized ∙ sym c.requires.0

pub returns : goal.returns
returns c = search filled_bytes
