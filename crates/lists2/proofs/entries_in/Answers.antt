-- Past the number of entries it is refused; else the row from entry `first` on is put, as far as there is room.
use Rattle.fields.proofs.Plain.{arith, refl}
use Rattle.known2.proofs.Rows.{known_roomy, known_some, housed_lies}
use Rattle.lists2.proofs.Inside.{in_past, in_told, in_end, in_rows}
use Rattle.lists2.proofs.entries_in.Goals as goal

pub width_of-all-requires : goal.width_of-all-requires
width_of-all-requires c = let k = c.requires in (known_roomy k.0, known_some k.0, housed_lies k.0 k.1)

pub returns-then-all-first : goal.returns-then-all-first
returns-then-all-first c =
    let whole = in_past c.requires.0 _ _ c.width_of-all.ensures c.if-all-first.true _ in
    record { result_value = whole.0; rows_after = whole.1 }

pub entry_numbered-requires : goal.entry_numbered-requires
entry_numbered-requires c = let k = c.requires in (known_roomy k.0, known_some k.0, housed_lies k.0 k.1)

pub returns-in_default : goal.returns-in_default
returns-in_default c =
    record {
      result_value = in_told c.requires.0 _ _ c.width_of-all.ensures (omega (arith, c.if-all-first.false)) _ c.min-count.ensures;
      rows_after = in_end c.requires.0 _ _ c.width_of-all.ensures (omega (arith, c.if-all-first.false)) _ c.min-count.ensures
          c.in_default.ensures.0 refl;
    }

pub put_rows-requires : goal.put_rows-requires
put_rows-requires c = (known_roomy c.requires.0, c.in-Some.ensures.1, omega (arith, c.min-count.ensures))

pub returns : goal.returns
returns c =
    record {
      result_value = in_told c.requires.0 _ _ c.width_of-all.ensures (omega (arith, c.if-all-first.false)) _ c.min-count.ensures;
      rows_after = in_rows c.requires.0 _ _ c.width_of-all.ensures (omega (arith, c.if-all-first.false)) _ c.min-count.ensures
          c.in-Some.ensures.0 c.put_rows.ensures;
    }
