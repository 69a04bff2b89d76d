-- An entry that a path leads to on a sound image can be removed: its pages and the free ones are fewer than 256, so byte 3 can count them.
use mathlib.Core.Path.{◌≡◌}
use Prim.Native.Nat.{ℕ}
use native.Mathlib.Omega.{arith}
use mathlib.Core.Bool.{Bool}
use Rattle.volume.specs.Bytes.{Bytes}
use Rattle.volume.specs.Chain.{chain}
use Rattle.volume.proofs.Occ.{under_of_mem}
use Rattle.volume.proofs.Chains.{chain_length}
use Rattle.model.specs.Layout.{page_count, pages_for, link}
use Rattle.model.specs.Entry.{a_file, a_directory, entry_at}
use Rattle.model.specs.Path.{Path}
use Rattle.laws.proofs.Facts.{Facts, viewed}
use Rattle.laws.proofs.Slots.{size, Owned}
use Rattle.chains.specs.Asked.{Returned}
use Rattle.arrivals.proofs.Entries.{directory_owned}
use Rattle.places.proofs.Arrivals.{EntryOf}
use Rattle.places.proofs.Entries.{file_owned}
use Rattle.changes.proofs.Entries.{own_few}

owned_returned : (b : Bytes) → Facts b → (k p : ℕ) → Owned b (chain (link b) k p) → Returned b k p
owned_returned b f k p o = record {
  inside = under_of_mem (page_count b) (chain (link b) k p) (λ q m. (o.inside q m).1);
  few = (size f).high;
  counted = omega (arith, own_few b f (chain (link b) k p) o, chain_length (link b) k p, f.counted, (size f).high);
}

module _ (b : Bytes) (f : Facts b) (p : Path) (at begins : ℕ) (x : EntryOf b p at begins) {name date : Bytes} {start k : ℕ} where
  pub file_returned : {locked : Bool} → entry_at b at ≡ a_file locked name date start k → Returned b (pages_for k) start
  file_returned is = owned_returned b f (pages_for k) start (file_owned b f p at begins x is)

  pub directory_returned : entry_at b at ≡ a_directory name date start k → Returned b 1 start
  unfolding chain
  directory_returned is = owned_returned b f 1 start (directory_owned (viewed f) x is)
