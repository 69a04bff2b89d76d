-- A granted call of version 1 does to the bytes what it does to the tree and leaves a sound image: the law of `version_laws`, by version 1's own laws of its
-- changes.
use mathlib.Core.Path.{◌≡◌}
use lib.Dec.{T}
use Rattle.volume.specs.Bytes.{Bytes}
use Rattle.model.specs.Sound.{sound}
use Rattle.model.specs.Image.{tree_of, tree_in}
use Rattle.model.specs.Call.{Call}
use Rattle.model.specs.Version.{v1}
use Rattle.model.specs.Refusal.{refusals, Passes}
use Rattle.model.specs.MeaningOf
use Rattle.model.specs.Meaning.{in_parent, changed, effect}
use Rattle.version_laws.proofs.Grants as Any
use Rattle.laws.proofs.Facts.{sound_facts_lem}
use Rattle.laws.proofs.Format.{fresh}
use Rattle.laws.proofs.Make.{file_tree, directory_tree}
use Rattle.laws.proofs.Write.{written_tree}
use Rattle.laws.proofs.Remove.{removed_tree}
use Rattle.laws.proofs.Lock.{locked_tree}
use Rattle.laws.proofs.Passed.{space_free, clear_of}

changes : Any.Changes v1
unfolding MeaningOf.changed in_parent tree_in
changes = record {
  formats = λ new b h e. fresh b (sound_facts_lem h).fits;
  makes_file = λ b h ns n date c. file_tree (sound_facts_lem h) (clear_of (sound_facts_lem h) c);
  makes_directory = λ b h ns n date c. directory_tree (sound_facts_lem h) (clear_of (sound_facts_lem h) c);
  writes = λ b h ns n from v u x q nd begins space. written_tree (sound_facts_lem h) ns n from v u.0 u.1 x q nd begins (space_free (sound_facts_lem h) space);
  removes = λ b h ns n u empty. removed_tree (sound_facts_lem h) ns n u.0 u.1 empty;
  locks = λ b h ns n locked u is_file. locked_tree (sound_facts_lem h) ns n locked u.0 u.1 is_file;
}

pub granted_law : (c : Call) (b : Bytes) → T (sound b) → Passes (refusals c (tree_of b)) → T (sound (effect c b)) × (tree_of (effect c b) ≡ changed c (tree_of b))
granted_law = Any.granted_law v1 changes
