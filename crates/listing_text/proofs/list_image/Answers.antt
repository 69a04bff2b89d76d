-- The listing goes by the verdict, and so does the code; a granted verdict gives what listing a sound image asks.
use Rattle.fields.proofs.Plain.{ap, ◌∙◌}
use Rattle.volume.specs.Bytes.{Bytes}
use Rattle.listing_lines.specs.Window.{window, poured}
use Rattle.listing_text.proofs.Images.{granted_sound, granted_pages, granted_free, granted_listing, refused_listing}
use Rattle.listing_text.proofs.list_image.Goals as goal

pub list_sound-requires : goal.list_sound-requires
list_sound-requires c =
    let b : Bytes = c.args.image.now in
    let given = c.in-Ok.ensures in
    (granted_sound b _ given, granted_pages b _ given, granted_free b _ given)

pub returns-in-Ok : goal.returns-in-Ok
returns-in-Ok c =
    let a = c.args in
    c.list_sound.ensures ∙ ap (λ (v : Bytes). poured v (window a.sink a.out.now)) (granted_listing a.image.now _ c.in-Ok.ensures)

pub returns-in-Err : goal.returns-in-Err
returns-in-Err c =
    let a = c.args in
    c.list_refused.ensures ∙ ap (λ (v : Bytes). poured v (window a.sink a.out.now)) (refused_listing a.image.now _ c.in-Err.ensures)
