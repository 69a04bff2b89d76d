-- What version 2 owes the laws of calls (`version_laws`), paid: its lengths, its judge, its counts and owners, its numbers, format, and what each call does.
use mathlib.Core.Path.{◌≡◌}
use Prim.Native.Nat.{◌*◌}
use lib.ListN.{length}
use lib.Dec.{T}
use Rattle.volume.specs.Bytes.{Bytes}
use Rattle.model.specs.Image.{tree_in}
use Rattle.model.specs.RefusalOf.{numbers_for}
use Rattle.model.specs.MeaningOf.{sound, tree_of}
use Rattle.version_laws.proofs.Lengths.{kept}
use Rattle.version_laws.proofs.Owed.{Owed}
use Rattle.model2.specs.Calls.{v2}
use Rattle.laws2.proofs.Bounds.{all_bytes}
use Rattle.laws2.proofs.Facts2.{sound_facts_lem}
use Rattle.laws2.proofs.Judged2.{judged2}
use Rattle.laws2.proofs.Counts2.{counted2}
use Rattle.laws2.proofs.Numbers2.{own_numbers2}
use Rattle.laws2.proofs.Format2.{formatted_length, fresh2, takes}
use Rattle.laws2.proofs.Grants2.{granted2}

long2 : (b : Bytes) → T (sound v2 b) → (tree_of v2 b).pages * (numbers_for v2 (tree_of v2 b)).page_size ≡ length b
unfolding tree_in
long2 b h = all_bytes (sound_facts_lem h).allowed

pub owed2 : Owed v2
owed2 = record {
  long = long2;
  judged = judged2;
  counts = λ b h. counted2 (sound_facts_lem h);
  numbered = own_numbers2;
  grants = granted2;
  fresh = λ new b e. fresh2 new b (takes new b e);
  kept = kept v2 long2 granted2 (λ new b e. formatted_length new b (takes new b e));
}
