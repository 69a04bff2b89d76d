-- Read: the bytes that the chain of a file's pages holds by the image's shape are those of its view, since the shape's geometry is the image's.
use mathlib.Core.Path.{◌≡◌, ap, ◌∙◌}
use Prim.Native.Nat.{ℕ, ◌+◌, ◌-◌, ◌≤◌, ◌<◌, ◌^◌, min}
use native.Mathlib.Omega.{arith}
use mathlib.Core.List.{flat_map}
use lib.ListN.{length, take, drop}
use Rattle.volume.specs.Bytes.{Bytes, put}
use Rattle.volume.specs.Chain.{chain}
use Rattle.volume.specs.Geometry as On
use Rattle.volume.specs.Geometry.{Geometry}
use Rattle.volume.proofs.Follow.{Inside}
use Rattle.model.specs.Call.{read, refusal, granted}
use Rattle.model.specs.MeaningOf.{answer, buffer_after}
use Rattle.model2.specs.Layout.{pages_for}
use Rattle.model2.specs.Calls.{v2}
use Rattle.arrivals.proofs.Readings as Any
use Rattle.arrivals.proofs.Readings.{ReadRefuses}
use Rattle.shape.specs.Geometry.{geometry_of}
use Rattle.known2.proofs.Rows.{known_roomy}
use Rattle.paths.specs.declared.Target.{Target}
use Rattle.paths.specs.declared.Place.TheVariants as place
use Rattle.places2.specs.declared.Arrived.{Arrived}
use Rattle.paths.specs.Places.{spot_of}
use Rattle.places2.proofs.Held.{reads2, Arrives, known_at, at_file, no_file, page_size_lem, page_room, file_lies, file_small}

module _ (b path : Bytes) (a : Arrived) (arrives : Arrives b path a) where
  pub read_directory : (at : ℕ) (room : Bytes) → ((t : Target) → a.place ≡ place.File t → ⊥) → ReadRefuses v2 b path at room (refusal 7)
  read_directory at room k = Any.read_no_file reads2 b path at room (spot_of a.place) (no_file a.place k) arrives.1

  pub read_room : (0 < a.cartridge.shape.room) × (a.cartridge.shape.room ≤ a.cartridge.shape.size) × (a.cartridge.shape.room ≤ 1024)
  read_room =
      let k = known_at b path a arrives in
      let p = page_room k in
      (p.0, p.1, omega (arith, p.1, (known_roomy k).bound))

  module _ {t : Target} (is : a.place ≡ place.File t) where
    pub read_past : (at : ℕ) (room : Bytes) → t.size < at → ReadRefuses v2 b path at room (refusal 12)
    read_past at room h = Any.read_past reads2 b path at room (at_file b path a arrives is) h

    -- what `pages_for` and `read_chain` ask
    pub read_sizes : (1 ≤ a.cartridge.shape.size) × (t.size + a.cartridge.shape.size < 2 ^ 64)
    read_sizes =
        let k = known_at b path a arrives in
        let r = known_roomy k in
        (omega (arith, r.large), omega (arith, r.bound, file_small k path (at_file b path a arrives is)))

    pub read_inside : {h : ℕ} → h ≡ pages_for a.cartridge.shape.size t.size → Inside (geometry_of a.cartridge.shape) b h t.start.0
    read_inside = file_lies (known_at b path a arrives) path (at_file b path a arrives is)

    module _ (at : ℕ) (room : Bytes) (h : at ≤ t.size) {count : ℕ} (least : count ≡ min (length room) (t.size - at)) where
      pub read_answer : granted count ≡ answer v2 (read path at room) b
      read_answer = Any.read_answer reads2 b path at room (at_file b path a arrives is) h count least

      pub read_buffer : {n : ℕ} → n ≡ pages_for a.cartridge.shape.size t.size → {room' : Bytes}
          → room' ≡ put 0 (take count (drop at (flat_map (On.content_on (geometry_of a.cartridge.shape) b) (chain (On.next (geometry_of a.cartridge.shape) b) n t.start.0)))) room
          → room' ≡ buffer_after v2 (read path at room) b
      read_buffer {n} many copy =
          let k = known_at b path a arrives in
          Any.read_buffer reads2 b path at room (at_file b path a arrives is) h count least n (many ∙ ap (λ (z : ℕ). pages_for z t.size) (page_size_lem k))
          (copy ∙ ap (λ (g : Geometry). put 0 (take count (drop at (flat_map (On.content_on g b) (chain (On.next g b) n t.start.0)))) room) k.formed.made)
