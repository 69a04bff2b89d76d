-- Lock and unlock: what any version says of them at a place, for what the code has arrived at.
use mathlib.Core.Path.{◌≡◌}
use Prim.Native.Nat.{◌<◌}
use native.Mathlib.Omega.{arith}
use mathlib.Core.Bool.{Bool}
use lib.ListN.{length, set}
use Rattle.volume.specs.Bytes.{Bytes, byte_at}
use Rattle.model.specs.EffectOf.{with_lock}
use Rattle.model.specs.Call.{set_lock, refusal, granted}
use Rattle.model.specs.MeaningOf.{answer, after}
use Rattle.model2.specs.Calls.{v2}
use Rattle.arrivals.proofs.Settled.{Refuses}
use Rattle.arrivals.proofs.Locks as Any
use Rattle.paths.specs.declared.Target.{Target}
use Rattle.paths.specs.declared.Place.TheVariants as place
use Rattle.places2.specs.declared.Arrived.{Arrived}
use Rattle.paths.specs.Places.{spot_of}
use Rattle.places2.proofs.Held.{reads2, Arrives, at_file, file_entry, no_file}

module _ (b path : Bytes) (a : Arrived) (arrives : Arrives b path a) (k : Bool) where
  pub lock_directory : ((t : Target) → a.place ≡ place.File t → ⊥) → Refuses v2 (set_lock k path) b (refusal 7)
  lock_directory n = Any.lock_no_file reads2 b path k (spot_of a.place) (no_file a.place n) arrives.1

  module _ {t : Target} (is : a.place ≡ place.File t) where
    pub lock_done : {b' : Bytes} → b' ≡ set b t.entry (with_lock k (byte_at b t.entry))
        → (granted (tt {0}) ≡ answer v2 (set_lock k path) b) × (b' ≡ after v2 (set_lock k path) b)
    lock_done = Any.lock_done reads2 b path k (at_file b path a arrives is)

-- the flags that are set
pub file_flags : (b path : Bytes) (a : Arrived) → Arrives b path a → {t : Target} → a.place ≡ place.File t
    → t.entry < length b
file_flags b path a arrives is = omega (arith, file_entry b path a arrives is)
