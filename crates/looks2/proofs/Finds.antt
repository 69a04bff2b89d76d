-- Find: at each place that a path leads to, what its entry says; a directory's size is the page size, which the image's shape has.
use mathlib.Core.Path.{◌≡◌, ap, ap₂, ◌∙◌}
use Prim.Native.Nat.{ℕ}
use mathlib.Core.Bool.{Bool}
use lib.ListN.{replicate}
use Rattle.volume.specs.Bytes.{Bytes}
use Rattle.model.specs.Call.{find, Kind, is_file, is_directory, granted}
use Rattle.model.specs.MeaningOf.{answer}
use Rattle.model2.specs.Entry.{is_locked, date_at}
use Rattle.model2.specs.Calls.{v2}
use Rattle.arrivals.specs.Places.{the_file, the_directory}
use Rattle.arrivals.proofs.Settled.{placed_arrived}
use Rattle.arrivals.proofs.Finds as Any
use Rattle.paths.specs.declared.Target.{Target}
use Rattle.paths.specs.declared.Place.TheVariants as place
use Rattle.places2.specs.declared.Arrived.{Arrived}
use Rattle.places2.proofs.Held.{reads2, Arrives, file_beside, directory_beside, known_at, at_root, at_file, at_directory, page_size_lem}

module _ (b path : Bytes) (a : Arrived) (arrives : Arrives b path a) where
  abbrev size : ℕ
  size = a.cartridge.shape.size

  abbrev Finds : Kind → ℕ → Bytes → Type 0
  Finds kind k date = granted (record { kind = kind; size = k; date = date }) ≡ answer v2 (find path) b

  -- the root has no date
  pub find_root : a.place ≡ place.Root → Finds is_directory size (replicate 8 0)
  find_root is =
      ap (λ (z : ℕ). granted (record { kind = is_directory; size = z; date = replicate 8 0 })) (page_size_lem (known_at b path a arrives))
      ∙ Any.find_root reads2 b path (at_root b path a arrives is)

  module _ {t : Target} {date : Bytes} (d : date ≡ date_at b t.entry) where
    pub find_file : a.place ≡ place.File t → {locked : Bool} → locked ≡ is_locked b t.entry → Finds (is_file locked) t.size date
    find_file is {locked} l =
        let e = at_file b path a arrives {t = t} is in
        let x = (placed_arrived v2 b path (the_file t.entry t.begins t.start.0 t.size) e).at.1 in
        let f = file_beside b t.entry x in
        ap₂ (λ (m : Bool) (v : Bytes). granted (record { kind = is_file m; size = t.size; date = v })) (l ∙ f.0) (d ∙ f.1) ∙ Any.find_file reads2 b path e x

    pub find_directory : a.place ≡ place.Directory t → Finds is_directory size date
    find_directory is =
        let e = at_directory b path a arrives {t = t} is in
        let x = (placed_arrived v2 b path (the_directory t.entry t.begins t.start.0 t.size) e).at.1 in
        ap₂ (λ (z : ℕ) (v : Bytes). granted (record { kind = is_directory; size = z; date = v })) (page_size_lem (known_at b path a arrives)) (d ∙ directory_beside b t.entry x)
        ∙ Any.find_directory reads2 b path e x
