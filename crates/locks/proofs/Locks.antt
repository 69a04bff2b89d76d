-- Lock and unlock: the laws of `arrivals` at each place of version 1.
use mathlib.Core.Path.{◌≡◌}
use mathlib.Core.Bool.{Bool}
use lib.ListN.{set}
use Rattle.volume.specs.Bytes.{Bytes, byte_at}
use Rattle.model.specs.Effect.{with_lock}
use Rattle.model.specs.Call.{set_lock, Refusal, refusal, refused, granted}
use Rattle.model.specs.Meaning.{answer, after}
use Rattle.arrivals.proofs.Locks as Any
use Rattle.paths.specs.declared.Target.{Target}
use Rattle.paths.specs.declared.Place.{Place}
use Rattle.paths.specs.declared.Place.TheVariants as place
use Rattle.paths.specs.Places.{spot_of}
use Rattle.places.specs.Places.{placed}
use Rattle.places.proofs.Arrivals.{reads}
use Rattle.answers.proofs.Files.{FileAt, at_no_file}

module _ (b path : Bytes) (k : Bool) where
  -- a refusal leaves the image as it is
  abbrev Refuses : Refusal → Type 0
  Refuses m = (refused m ≡ answer (set_lock k path) b) × (b ≡ after (set_lock k path) b)

  pub lock_refused : {m : Refusal} → refused m ≡ placed b path → Refuses m
  lock_refused e = Any.lock_refused reads b path k e

  pub lock_directory : (p : Place) → ((t : Target) → p ≡ place.File t → ⊥) → granted (spot_of p) ≡ placed b path → Refuses (refusal 7)
  lock_directory p t e = let n = at_no_file p t e in Any.lock_no_file reads b path k (spot_of p) n.0 n.1

  pub lock_done : (t : Target) → FileAt b path t → {b' : Bytes} → b' ≡ set b t.entry (with_lock k (byte_at b t.entry))
      → (granted (tt {0}) ≡ answer (set_lock k path) b) × (b' ≡ after (set_lock k path) b)
  lock_done t e = Any.lock_done reads b path k {entry = t.entry} {begins = t.begins} {start = t.start.0} {size = t.size} e
