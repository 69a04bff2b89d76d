-- The piece ends before the window, begins behind it, or reaches into it and is copied as far as there is room.
use Rattle.listing_lines.specs.Window.{window}
use Rattle.listing_lines.proofs.Windows.{before_window, behind_window, in_window}
use Rattle.listing_lines.proofs.pour.Goals as goal

pub returns-then-piece-skip : goal.returns-then-piece-skip
returns-then-piece-skip c = before_window _ (window _ _) c.if-piece-skip.true

pub returns-then-out-done : goal.returns-then-out-done
returns-then-out-done c = behind_window _ (window _ _) c.if-piece-skip.false c.if-out-done.true

pub returns : goal.returns
returns c =
    let copied = c.copy_in in
    let count = c.min-count in
    in_window _ (window _ _) _ count.ensures c.if-piece-skip.false _ copied.ensures
