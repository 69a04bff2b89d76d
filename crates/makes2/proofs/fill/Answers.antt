-- In the image with room the entry that was found is the lowest vacant one, and what is put there is what the model puts.
use Rattle.makes2.proofs.Rooms.{fill_making, fill_made}
use Rattle.makes2.proofs.fill.Goals as goal

pub entry_in-entry-requires : goal.entry_in-entry-requires
entry_in-entry-requires c = c.requires.0

pub make_entry-requires : goal.make_entry-requires
make_entry-requires c =
    let a = c.requires in
    let e = c.entry_in-entry.ensures in
    fill_making a.0 e.image_after e.value _ _ _ _ a.1 a.2 a.3

pub returns : goal.returns
returns c =
    let a = c.requires in
    let e = c.entry_in-entry.ensures in
    fill_made a.0 e.image_after e.value _ _ _ _ c.make_entry.ensures
