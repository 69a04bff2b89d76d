-- Read: the laws of `arrivals` at a file of version 1, whose content stands in its chain.
use mathlib.Core.Path.{◌≡◌}
use Prim.Native.Nat.{ℕ, ◌-◌, ◌≤◌, ◌<◌, min}
use mathlib.Core.List.{flat_map}
use lib.ListN.{length, take, drop}
use Rattle.volume.specs.Bytes.{Bytes, put}
use Rattle.volume.specs.Chain.{chain}
use Rattle.model.specs.Layout.{pages_for, link}
use Rattle.model.specs.Version1.{view}
use Rattle.model.specs.Version.{v1}
use Rattle.model.specs.Image.{content_on}
use Rattle.model.specs.Call.{read, Refusal, refusal, refused, granted}
use Rattle.model.specs.Meaning.{answer, buffer_after}
use Rattle.arrivals.proofs.Readings as Any
use Rattle.paths.specs.declared.Target.{Target}
use Rattle.paths.specs.declared.Place.{Place}
use Rattle.paths.specs.declared.Place.TheVariants as place
use Rattle.paths.specs.Places.{spot_of}
use Rattle.places.specs.Places.{placed}
use Rattle.places.proofs.Arrivals.{reads}
use Rattle.chains.specs.Asked.{Inside}
use Rattle.answers.proofs.Files.{FileAt, at_no_file}

-- its pages lie in the image
pub read_inside : (b path : Bytes) (t : Target) → FileAt b path t → (n : ℕ) → n ≡ pages_for t.size → Inside b n t.start.0
read_inside b path t e n many = rw many (Any.read_inside v1 b path {entry = t.entry} {begins = t.begins} {start = t.start.0} {k = t.size} e)

-- ---- the answer and the buffer

module _ (b path : Bytes) (at : ℕ) (room : Bytes) where
  -- a refusal leaves the buffer as it is
  abbrev Refuses : Refusal → Type 0
  Refuses m = (refused m ≡ answer (read path at room) b) × (room ≡ buffer_after (read path at room) b)

  pub read_refused : {m : Refusal} → refused m ≡ placed b path → Refuses m
  read_refused e = Any.read_refused reads b path at room e

  pub read_directory : (p : Place) → ((t : Target) → p ≡ place.File t → ⊥) → granted (spot_of p) ≡ placed b path → Refuses (refusal 7)
  read_directory p k e = let n = at_no_file p k e in Any.read_no_file reads b path at room (spot_of p) n.0 n.1

  module _ (t : Target) (e : FileAt b path t) where
    abbrev start : ℕ
    start = t.start.0

    abbrev k : ℕ
    k = t.size

    pub read_past : k < at → Refuses (refusal 12)
    read_past h = Any.read_past reads b path at room e h

    module _ (h : at ≤ k) (count : ℕ) (least : count ≡ min (length room) (k - at)) where
      pub read_answer : granted count ≡ answer (read path at room) b
      read_answer = Any.read_answer reads b path at room e h count least

      pub read_buffer : (n : ℕ) → n ≡ pages_for k → {room' : Bytes} → room' ≡ put 0 (take count (drop at (flat_map (content_on (view b)) (chain (link b) n start)))) room
          → room' ≡ buffer_after (read path at room) b
      read_buffer n many copy = Any.read_buffer reads b path at room e h count least n many copy
