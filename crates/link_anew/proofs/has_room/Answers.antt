-- One page is room enough for a make that is granted; the verdict tells the free pages, or that the image is not sound.
use Rattle.link_anew.proofs.InPlace.{small_room, free_room, verdict_refused}
use mathlib.Core.Bool.{true≢false}
use Rattle.link_anew.proofs.has_room.Goals as goal

pub returns-then-size-le255 : goal.returns-then-size-le255
returns-then-size-le255 c = (λ e h. small_room _ c.args.image.now c.if-size-le255.true, λ e. absurd (true≢false e))

pub returns-in-Ok : goal.returns-in-Ok
returns-in-Ok c = free_room _ _ c.in-Ok.ensures c.args.size _ c.pages_for.ensures

pub returns-in-Err : goal.returns-in-Err
returns-in-Err c = (λ e h. absurd (verdict_refused _ _ c.in-Err.ensures h), λ e. absurd (true≢false e))
