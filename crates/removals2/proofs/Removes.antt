-- The two removals: what any version says of them at a place, for what the code has arrived at; the pages that it gives back are the entry's own, since the
-- shape's geometry is the image's.
use mathlib.Core.Path.{◌≡◌, refl, sym, ap, ap₂, ◌∙◌, subst}
use Prim.Native.Nat.{ℕ, ◌<◌}
use native.Mathlib.Omega.{arith}
use mathlib.Core.Bool.{Bool, true, false, not}
use mathlib.Core.List.{foldl}
use lib.ListN.{length, set}
use Rattle.volume.specs.Bytes.{Bytes}
use Rattle.volume.specs.Lists.{all}
use Rattle.volume.specs.Chain.{chain, linked}
use Rattle.volume.specs.Geometry as On
use Rattle.volume.specs.Geometry.{Geometry}
use Rattle.volume.proofs.Releasing.{Returned}
use Rattle.model.specs.Path.{path_of}
use Rattle.model.specs.EffectOf.{is_vacant}
use Rattle.model.specs.Call.{remove_file, remove_directory, refusal, refusal_at, granted}
use Rattle.model.specs.MeaningOf.{answer, after}
use Rattle.model2.specs.Layout.{pages_for}
use Rattle.model2.specs.Entry.{is_locked, entry_at}
use Rattle.model2.specs.Version2.{linked_pages, view2}
use Rattle.model2.specs.Calls.{v2}
use Rattle.arrivals.specs.Places.{the_file, the_directory, placed}
use Rattle.arrivals.proofs.Arrivals as Spots
use Rattle.arrivals.proofs.Entries.{leads, among}
use Rattle.arrivals.proofs.Settled.{Refuses, placed_arrived}
use Rattle.arrivals.proofs.Removes.{remove_file_root, remove_file_locked, remove_file_done, remove_file_directory, remove_directory_root, remove_directory_file, remove_directory_held, remove_directory_done}
use Rattle.fields.proofs.Plain.{told, untold}
use Rattle.shape.specs.Geometry.{geometry_of}
use Rattle.cursor2.specs.Row.{row}
use Rattle.known2.specs.Known.{Known}
use Rattle.changes2.specs.Asked.{Walkable}
use Rattle.changes2.proofs.Sound2.{file_returned, inner_walkable, inner_returned, vacant_view}
use Rattle.paths.specs.declared.Target.{Target}
use Rattle.paths.specs.declared.Place.TheVariants as place
use Rattle.places2.specs.declared.Arrived.{Arrived}
use Rattle.places2.proofs.Held as Held
use Rattle.places2.proofs.Held.{reads2, Arrives, file_beside, known_at, at_file, at_directory, file_entry, directory_entry, page_size_lem}

module _ (b path : Bytes) (a : Arrived) (arrives : Arrives b path a) where
  known : Known b a.cartridge.shape a.cartridge.pages
  known = known_at b path a arrives

  pub file_root : a.place ≡ place.Root → Refuses v2 (remove_file path) b (refusal 14)
  file_root is = remove_file_root reads2 b path (Held.at_root b path a arrives is)

  pub directory_root : a.place ≡ place.Root → Refuses v2 (remove_directory path) b (refusal 14)
  directory_root is = remove_directory_root reads2 b path (Held.at_root b path a arrives is)

  -- ---- a file

  module _ {t : Target} (is : a.place ≡ place.File t) where
    e : granted (the_file t.entry t.begins t.start.0 t.size) ≡ placed v2 b path
    e = at_file b path a arrives is

    its : Spots.At (view2 b) (path_of path) (the_file t.entry t.begins t.start.0 t.size)
    its = (placed_arrived v2 b path (the_file t.entry t.begins t.start.0 t.size) e).at

    pub directory_is_file : Refuses v2 (remove_directory path) b (refusal_at 6 t.begins)
    directory_is_file = remove_directory_file reads2 b path e

    -- the code says r of the mark
    pub file_locked : {r : Bool} → r ≡ is_locked b t.entry → r ≡ true → Refuses v2 (remove_file path) b (refusal 25)
    file_locked asked = remove_file_locked reads2 b path e its.1 (asked ∙ (file_beside b t.entry its.1).0)

    module _ {n : ℕ} (many : n ≡ pages_for a.cartridge.shape.size t.size) where
      pub file_asked : Returned (geometry_of a.cartridge.shape) b n t.start.0 × (t.entry < length b)
      file_asked =
          let x = its.0 in
          let l = leads (view2 b) known.facts x.ns x.page x.reached in (
            subst (λ (m : ℕ). Returned (geometry_of a.cartridge.shape) b m t.start.0) (sym many)
                (file_returned known x.ns l.0 x.page l.1 t.entry (among known.facts x) its.1),
            omega (arith, file_entry b path a arrives is),
          )

      pub file_done : {r : Bool} → r ≡ is_locked b t.entry → r ≡ false
          → {b' : Bytes} → b' ≡ set (foldl (On.released (geometry_of a.cartridge.shape)) b (chain (On.next (geometry_of a.cartridge.shape) b) n t.start.0)) t.entry 0
          → (granted (tt {0}) ≡ answer v2 (remove_file path) b) × (b' ≡ after v2 (remove_file path) b)
      file_done asked unmarked left =
          remove_file_done reads2 b path e its.1 (asked ∙ (file_beside b t.entry its.1).0) unmarked n
          (many ∙ ap (λ (z : ℕ). pages_for z t.size) (page_size_lem known))
          (left ∙ ap (λ (g : Geometry). set (foldl (On.released g) b (chain (On.next g b) n t.start.0)) t.entry 0) known.formed.made)

  -- ---- a directory

  module _ {t : Target} (is : a.place ≡ place.Directory t) where
    d : granted (the_directory t.entry t.begins t.start.0 t.size) ≡ placed v2 b path
    d = at_directory b path a arrives is

    own : Spots.At (view2 b) (path_of path) (the_directory t.entry t.begins t.start.0 t.size)
    own = (placed_arrived v2 b path (the_directory t.entry t.begins t.start.0 t.size) d).at

    pub file_is_directory : Refuses v2 (remove_file path) b (refusal 7)
    file_is_directory = remove_file_directory reads2 b path d

    pub directory_walkable : Walkable a.cartridge.shape a.cartridge.pages t.start.0 b
    directory_walkable =
        let x = own.0 in
        let l = leads (view2 b) known.facts x.ns x.page x.reached in
        inner_walkable known x.ns l.0 x.page l.1 t.entry (among known.facts x) own.1

    -- the code says r of whether all its entries are vacant
    module _ {r : Bool} (asked : r ≡ all (λ at. is_vacant (entry_at b at)) (row a.cartridge.shape a.cartridge.pages b t.start.0)) where
      vacant : r ≡ all (λ at. is_vacant ((view2 b).entry_at at)) ((view2 b).entries t.start.0)
      vacant = asked ∙ vacant_view known t.start.0

      pub directory_held : not r ≡ true → Refuses v2 (remove_directory path) b (refusal 13)
      directory_held h = remove_directory_held reads2 b path d vacant (untold {r = r} refl h)

      -- and n of its pages
      module _ {n : ℕ} (many : n ≡ linked (On.next (geometry_of a.cartridge.shape) b) a.cartridge.pages t.start.0) where
        pub directory_done : not r ≡ false
            → {b' : Bytes} → b' ≡ set (foldl (On.released (geometry_of a.cartridge.shape)) b (chain (On.next (geometry_of a.cartridge.shape) b) n t.start.0)) t.entry 0
            → (granted (tt {0}) ≡ answer v2 (remove_directory path) b) × (b' ≡ after v2 (remove_directory path) b)
        directory_done h left =
            let f = known.formed in
            remove_directory_done reads2 b path d vacant (told {r = r} refl h)
            (left
            ∙ ap (λ (i : ℕ). set (foldl (On.released (geometry_of a.cartridge.shape)) b (chain (On.next (geometry_of a.cartridge.shape) b) i t.start.0)) t.entry 0) many
            ∙ ap₂ (λ (g : Geometry) (i : ℕ). set (foldl (On.released g) b (linked_pages (On.next g b) i t.start.0)) t.entry 0) f.made f.count)

    pub directory_asked : {n : ℕ} → n ≡ linked (On.next (geometry_of a.cartridge.shape) b) a.cartridge.pages t.start.0
        → Returned (geometry_of a.cartridge.shape) b n t.start.0 × (t.entry < length b)
    directory_asked many =
        let x = own.0 in
        let l = leads (view2 b) known.facts x.ns x.page x.reached in (
          subst (λ (m : ℕ). Returned (geometry_of a.cartridge.shape) b m t.start.0) (sym many)
              (inner_returned known x.ns l.0 x.page l.1 t.entry (among known.facts x) own.1),
          omega (arith, directory_entry b path a arrives is),
        )
