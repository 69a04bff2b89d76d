-- The second table: the values that the laws leave free, all under one theorem, which holds since each list of rows does. The rows stand in the files
-- before this one.
use mathlib.Core.List.{List, ◌++◌}
use Rattle.model.proofs.Run.{Case, Hold, hold_append}
use Rattle.tables.proofs.Answers.{ordered, ordered_hold, formats, formats_hold, judged_first, judged_first_hold, stores, stores_hold, paths, paths_hold, told, told_hold, readings, readings_hold}
use Rattle.tables.proofs.Makes.{makes, makes_hold, dates, dates_hold}
use Rattle.tables.proofs.Changes.{writes, writes_hold, removes, removes_hold, locks, locks_hold, made, made_hold}
use Rattle.tables.proofs.Soundness.{sounds, sounds_hold, facts, facts_hold, order, order_hold, kept, kept_hold, owning, owning_hold}
use Rattle.tables.proofs.Pictures.{trees, trees_hold, listings, listings_hold}

pub values : List Case
values =
    ordered ++ (formats ++ (judged_first ++ (stores ++ (paths ++ (told ++ (makes ++ (dates ++ (readings
    ++ (writes ++ (removes ++ (locks ++ (made
    ++ (sounds ++ (facts ++ (order ++ (kept ++ (owning
    ++ (trees ++ listings))))))))))))))))))

pub values_hold : Hold values
unfolding values
values_hold =
    hold_append _ _ ordered_hold (hold_append _ _ formats_hold (hold_append _ _ judged_first_hold (hold_append _ _ stores_hold (hold_append _ _ paths_hold (hold_append _ _ told_hold
    (hold_append _ _ makes_hold (hold_append _ _ dates_hold (hold_append _ _ readings_hold
    (hold_append _ _ writes_hold (hold_append _ _ removes_hold (hold_append _ _ locks_hold (hold_append _ _ made_hold
    (hold_append _ _ sounds_hold (hold_append _ _ facts_hold (hold_append _ _ order_hold (hold_append _ _ kept_hold (hold_append _ _ owning_hold
    (hold_append _ _ trees_hold listings_hold))))))))))))))))))
