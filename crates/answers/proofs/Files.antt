-- What a caller knows of an arrival at a place, in the words of `arrivals`: which place it is, and that its entry lies in the image.
use mathlib.Core.Path.{refl, ◌≡◌}
use Prim.Native.Nat.{◌+◌, ◌≤◌, ◌<◌}
use native.Mathlib.Omega.{arith}
use lib.ListN.{length}
use Rattle.volume.specs.Bytes.{Bytes}
use Rattle.model.specs.Path.{path_of}
use Rattle.model.specs.Call.{Answer, granted}
use Rattle.arrivals.proofs.Files.{NoFile}
use Rattle.paths.specs.declared.Target.{Target}
use Rattle.paths.specs.declared.Place.{Place}
use Rattle.paths.specs.declared.Place.TheVariants as place
use Rattle.paths.specs.Places.{spot_of}
use Rattle.places.specs.Places.{Spot, the_root, the_file, the_directory, placed}
use Rattle.places.proofs.Arrivals.{placed_arrived}
use Rattle.places.proofs.Entries.{entry_inside}

abbrev pub FileAt : Bytes → Bytes → Target → Type 0
FileAt b path t = granted (the_file t.entry t.begins t.start.0 t.size) ≡ placed b path

abbrev pub DirectoryAt : Bytes → Bytes → Target → Type 0
DirectoryAt b path t = granted (the_directory t.entry t.begins t.start.0 t.size) ≡ placed b path

pub at_root : {p : Place} {x : Answer Spot} → p ≡ place.Root → granted (spot_of p) ≡ x → granted the_root ≡ x
at_root is arrives = rw is at arrives

pub at_file : {p : Place} {t : Target} {x : Answer Spot} → p ≡ place.File t → granted (spot_of p) ≡ x → granted (spot_of (place.File t)) ≡ x
at_file is arrives = rw is at arrives

pub at_directory : {p : Place} {t : Target} {x : Answer Spot} → p ≡ place.Directory t → granted (spot_of p) ≡ x → granted (spot_of (place.Directory t)) ≡ x
at_directory is arrives = rw is at arrives

-- the root and a directory are no file
pub at_no_file : (p : Place) {x : Answer Spot} → ((t : Target) → p ≡ place.File t → ⊥) → granted (spot_of p) ≡ x → NoFile (spot_of p) × (granted (spot_of p) ≡ x)
at_no_file place.Root k arrives = (tt, arrives)
at_no_file (place.File t) k arrives = absurd (k t refl)
at_no_file (place.Directory t) k arrives = (tt, arrives)

-- its entry lies in the image
module _ (b path : Bytes) (t : Target) where
  pub file_entry : FileAt b path t → t.entry + 32 ≤ length b
  file_entry e =
      let s = placed_arrived b path (spot_of (place.File t)) e in
      entry_inside b s.facts (path_of path) t.entry t.begins s.at.0

  pub file_flags : FileAt b path t → t.entry < length b
  file_flags e = omega (arith, file_entry e)

  pub directory_entry : DirectoryAt b path t → t.entry + 32 ≤ length b
  directory_entry e =
      let s = placed_arrived b path (spot_of (place.Directory t)) e in
      entry_inside b s.facts (path_of path) t.entry t.begins s.at.0
