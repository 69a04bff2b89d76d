-- Page 0 is copied, its bitmap bytes in use are put over it, and then the root's entries.
use Rattle.laws.proofs.Facts.{valid_sized}
use Rattle.volume.specs.Bytes.{Bytes, put}
use Rattle.volume.specs.Lists.{up_to}
use Rattle.model.specs.Layout.{page_count}
use Rattle.model.specs.Entry.{entries}
use Rattle.moves.specs.Tidy.{moved_entry}
use Rattle.proposals.specs.Steps.{bits_at}
use mathlib.Core.Path.{ap, ◌∙◌}
use Prim.Native.Nat.{◌/◌}
use native.Mathlib.Omega.{arith}
use mathlib.Core.List.{◌++◌, map, flat_map}
use lib.ListN.{take}
use Rattle.targets.proofs.move_header.Goals as goal

pub copy_page-requires : goal.copy_page-requires
copy_page-requires c =
    let start = c in
    let s = valid_sized start.args.image.now start.requires.1 in
    (omega (arith, s.low), start.requires.2)

pub move_entries-requires : goal.move_entries-requires
move_entries-requires c =
    let write-bits = c in
    let copy-page = write-bits in
    let start = copy-page in
    let s = valid_sized start.args.image.now start.requires.1 in
    (omega (arith, s.low), omega (arith, write-bits.write_bits.auto.stretch, copy-page.copy_page.auto.stretch, start.requires.2), s.high)

pub returns : goal.returns
returns c =
    let move-entries = c in
    let write-bits = move-entries in
    let copy-page = write-bits in
    let start = copy-page in
    move-entries.move_entries.ensures ∙ ap (λ (v : Bytes). take 64 v ++ flat_map (moved_entry start.args.places.now start.args.image.now)
    (entries 0)) (write-bits.write_bits.ensures ∙ ap (λ (v : Bytes). put 4 (map (bits_at start.args.image.now start.args.pages.now) (up_to (page_count start.args.image.now / 8))) v)
    copy-page.copy_page.ensures)
