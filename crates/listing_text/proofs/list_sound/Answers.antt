-- Behind the counts come the lines of the root, read to the depth N; a sound image's pages lie in it.
use Rattle.fields.proofs.Plain.{ap, ◌∙◌}
use mathlib.Core.List.{[], ◌++◌}
use Rattle.volume.specs.Bytes.{Bytes}
use Rattle.model.specs.Text.{text}
use Rattle.model.specs.Listing.{decimal, newline}
use Rattle.listing_lines.specs.Window.{Window, window, poured}
use Rattle.listing_rows.specs.Lines.{directory_lines}
use Rattle.listing_lines.proofs.Windows.{poured_next}
use Rattle.listing_text.proofs.Images.{root_readable, lines_whole}
use Rattle.listing_text.proofs.list_sound.Goals as goal

pub list_directory-requires : goal.list_directory-requires
list_directory-requires c =
    let start = c in
    root_readable _ _ start.args.free start.requires.0 start.requires.1

pub returns : goal.returns
returns c =
    let pour-counts = c in
    let start = pour-counts in
    let a = start.args in
    let w : Window = window a.sink a.out.now in
    let counts : Bytes = text "pages " ++ decimal a.pages ++ text " free " ++ decimal a.free ++ newline in
    let whole = lines_whole a.image.now a.pages a.free start.requires.0 start.requires.1 start.requires.2 in
    poured_next counts (directory_lines a.pages a.image.now 0 []) w pour-counts.pour_counts-sink.ensures
    c.list_directory.ensures.0 ∙ ap (λ (v : Bytes). poured v w) whole
