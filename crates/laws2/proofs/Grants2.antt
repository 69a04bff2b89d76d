-- A granted call of version 2 does to the bytes what it does to the tree and leaves a sound image: the law of `version_laws`, by version 2's own laws of its
-- changes.
use mathlib.Core.Path.{◌≡◌}
use lib.Dec.{T}
use Rattle.volume.specs.Bytes.{Bytes}
use Rattle.model.specs.Version.{Calls}
use Rattle.model.specs.RefusalOf.{Passes, refusals}
use Rattle.model.specs.MeaningOf.{sound, tree_of, changed, effect}
use Rattle.version_laws.proofs.Grants.{Changes, granted_law}
use Rattle.model2.specs.Calls.{v2}
use Rattle.laws2.proofs.Format2.{formats2}
use Rattle.laws2.proofs.Make2.{file_tree, directory_tree}
use Rattle.laws2.proofs.Write2.{written_tree}
use Rattle.laws2.proofs.Remove2.{removed_tree}
use Rattle.laws2.proofs.Lock2.{locked_tree}

pub changes2 : Changes v2
changes2 = record {
  formats = formats2;
  makes_file = file_tree;
  makes_directory = directory_tree;
  writes = written_tree;
  removes = removed_tree;
  locks = locked_tree;
}

pub granted2 : (c : Calls v2) (b : Bytes) → T (sound v2 b) → Passes (refusals v2 c (tree_of v2 b))
    → T (sound v2 (effect v2 c b)) × (tree_of v2 (effect v2 c b) ≡ changed v2 c (tree_of v2 b))
granted2 = granted_law v2 changes2
