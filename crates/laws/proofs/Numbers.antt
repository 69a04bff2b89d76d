-- The numbers of version 1's calls: what `numbers` says of each.
use mathlib.Core.Path.{refl}
use mathlib.Core.List.{[], ◌∷◌}
use lib.Dec.{leb-suc-zero}
use Rattle.volume.specs.Lists.{all, any, keep}
use Rattle.model.specs.Judge.{judge}
use Rattle.model.specs.Tree.{free_number}
use Rattle.model.specs.Image.{tree_of}
use Rattle.model.specs.Call.{Call, format_as, verdict, find, list, read, make_file, make_directory, write, remove_file, remove_directory, set_lock, store_as}
use Rattle.model.specs.Version.{v1}
use Rattle.model.specs.RefusalOf
use Rattle.model.specs.Refusal.{table_of, own_numbers}
use Rattle.model.specs.MeaningOf
use Rattle.model.specs.Meaning.{is_format, numbers}
use Rattle.version_laws.proofs.Owed as Any
use Rattle.laws.proofs.Lines.{rank_in, rising, InOrder, fault_numbered}

abbrev pub OwnNumbers : Call → Type 0
OwnNumbers c = Any.OwnNumbers v1 c

pub own_numbers_lem : (c : Call) → OwnNumbers c
unfolding all any keep MeaningOf.lines is_format RefusalOf.refusals RefusalOf.earlier RefusalOf.later RefusalOf.wanted RefusalOf.make_lines RefusalOf.table_order rank_in rising RefusalOf.own_numbers MeaningOf.numbers
own_numbers_lem (format_as new) = record { above = λ t. refl; below = λ t. refl; given = λ b. tt; ordered = tt }
own_numbers_lem verdict = record { above = λ t. refl; below = λ t. refl; given = λ b. rw (fault_numbered (1 ∷ 2 ∷ []) (own_numbers verdict) (judge b), leb-suc-zero (free_number (tree_of b))) tt; ordered = tt }
own_numbers_lem (find path) = record { above = λ t. refl; below = λ t. refl; given = λ b. rw (fault_numbered (1 ∷ 2 ∷ []) (own_numbers (find path)) (judge b), leb-suc-zero (free_number (tree_of b))) tt; ordered = tt }
own_numbers_lem (list path i) = record { above = λ t. refl; below = λ t. refl; given = λ b. rw (fault_numbered (1 ∷ 2 ∷ []) (own_numbers (list path i)) (judge b), leb-suc-zero (free_number (tree_of b))) tt; ordered = tt }
own_numbers_lem (read path at room) = record { above = λ t. refl; below = λ t. refl; given = λ b. rw (fault_numbered (1 ∷ 2 ∷ []) (own_numbers (read path at room)) (judge b), leb-suc-zero (free_number (tree_of b))) tt; ordered = tt }
own_numbers_lem (make_file path date) = record { above = λ t. refl; below = λ t. refl; given = λ b. rw (fault_numbered (1 ∷ 2 ∷ []) (own_numbers (make_file path date)) (judge b)) tt; ordered = tt }
own_numbers_lem (make_directory path date) = record { above = λ t. refl; below = λ t. refl; given = λ b. rw (fault_numbered (1 ∷ 2 ∷ []) (own_numbers (make_directory path date)) (judge b)) tt; ordered = tt }
own_numbers_lem (write path at v) = record { above = λ t. refl; below = λ t. refl; given = λ b. rw (fault_numbered (1 ∷ 2 ∷ []) (own_numbers (write path at v)) (judge b)) tt; ordered = tt }
own_numbers_lem (remove_file path) = record { above = λ t. refl; below = λ t. refl; given = λ b. rw (fault_numbered (1 ∷ 2 ∷ []) (own_numbers (remove_file path)) (judge b), leb-suc-zero (free_number (tree_of b))) tt; ordered = tt }
own_numbers_lem (remove_directory path) = record { above = λ t. refl; below = λ t. refl; given = λ b. rw (fault_numbered (1 ∷ 2 ∷ []) (own_numbers (remove_directory path)) (judge b), leb-suc-zero (free_number (tree_of b))) tt; ordered = tt }
own_numbers_lem (set_lock locked path) = record { above = λ t. refl; below = λ t. refl; given = λ b. rw (fault_numbered (1 ∷ 2 ∷ []) (own_numbers (set_lock locked path)) (judge b), leb-suc-zero (free_number (tree_of b))) tt; ordered = tt }
own_numbers_lem (store_as has path date v k buffer) = record { above = λ t. refl; below = λ t. refl; given = λ b. rw (fault_numbered (29 ∷ 1 ∷ 2 ∷ []) (own_numbers (store_as has path date v k buffer)) (judge b)) tt; ordered = tt }

-- each call's numbers stand in the order of its table
pub in_order : (c : Call) → InOrder (table_of c) (numbers c)
in_order c = (own_numbers_lem c).ordered
