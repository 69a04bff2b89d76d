-- The numbers of version 2's calls: what `numbers` says of each. The lines of a call have these numbers in this order whatever the tree is, since directories
-- grow in every image and so no make has a line of its own for a full one.
use mathlib.Core.Path.{◌≡◌, refl}
use mathlib.Core.Bool.{true, false}
use mathlib.Core.List.{[], ◌∷◌}
use lib.Dec.{ltb, leb-suc-zero}
use Rattle.volume.specs.Bytes.{Bytes}
use Rattle.volume.specs.Lists.{all, any, keep, member}
use Rattle.model.specs.Judge.{judge_view}
use Rattle.model.specs.Call.{format_as, verdict, find, list, read, make_file, make_directory, write, remove_file, remove_directory, set_lock, store_as}
use Rattle.model.specs.Version.{Calls}
use Rattle.model.specs.RefusalOf.{free_in, wanted, make_lines, earlier, later, refusals, table_order, own_numbers}
use Rattle.model.specs.MeaningOf.{first_fault, tree_of, is_format, lines, numbers}
use Rattle.version_laws.proofs.Lines.{rank_in, rising, fault_numbered}
use Rattle.version_laws.proofs.Owed.{OwnNumbers}
use Rattle.model2.specs.Version2.{view2}
use Rattle.model2.specs.Calls.{v2}

-- a fault's number is one of any call's, and a call that needs no page has pages enough
faults : (c : Calls v2) (b : Bytes)
    → member (first_fault (judge_view (view2 b))).number (1 ∷ 2 ∷ 26 ∷ 16 ∷ 17 ∷ 18 ∷ 20 ∷ 19 ∷ 3 ∷ own_numbers v2 c) ≡ true
faults c b = fault_numbered (1 ∷ 2 ∷ 26 ∷ []) (own_numbers v2 c) (judge_view (view2 b))

no_want : (b : Bytes) → ltb (free_in v2 (tree_of v2 b)) 0 ≡ false
no_want b = leb-suc-zero (free_in v2 (tree_of v2 b))

pub own_numbers2 : (c : Calls v2) → OwnNumbers v2 c
unfolding all any keep lines is_format refusals earlier later wanted make_lines table_order rank_in rising own_numbers numbers
own_numbers2 (format_as new) = record { above = λ t. refl; below = λ t. refl; given = λ b. tt; ordered = tt }
own_numbers2 verdict = record { above = λ t. refl; below = λ t. refl; given = λ b. rw (faults verdict b, no_want b) tt; ordered = tt }
own_numbers2 (find path) = record { above = λ t. refl; below = λ t. refl; given = λ b. rw (faults (find path) b, no_want b) tt; ordered = tt }
own_numbers2 (list path i) = record { above = λ t. refl; below = λ t. refl; given = λ b. rw (faults (list path i) b, no_want b) tt; ordered = tt }
own_numbers2 (read path at room) = record { above = λ t. refl; below = λ t. refl; given = λ b. rw (faults (read path at room) b, no_want b) tt; ordered = tt }
own_numbers2 (make_file path date) = record { above = λ t. refl; below = λ t. refl; given = λ b. rw (faults (make_file path date) b) tt; ordered = tt }
own_numbers2 (make_directory path date) = record { above = λ t. refl; below = λ t. refl; given = λ b. rw (faults (make_directory path date) b) tt; ordered = tt }
own_numbers2 (write path at v) = record { above = λ t. refl; below = λ t. refl; given = λ b. rw (faults (write path at v) b) tt; ordered = tt }
own_numbers2 (remove_file path) = record { above = λ t. refl; below = λ t. refl; given = λ b. rw (faults (remove_file path) b, no_want b) tt; ordered = tt }
own_numbers2 (remove_directory path) = record { above = λ t. refl; below = λ t. refl; given = λ b. rw (faults (remove_directory path) b, no_want b) tt; ordered = tt }
own_numbers2 (set_lock locked path) = record { above = λ t. refl; below = λ t. refl; given = λ b. rw (faults (set_lock locked path) b, no_want b) tt; ordered = tt }
own_numbers2 (store_as has path date v k buffer) = absurd has
