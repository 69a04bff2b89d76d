-- Write: what any version says of it at a place, for what the code has arrived at. The header's count is the free number of a sound image, and what is granted
-- fits its pages.
use mathlib.Core.Path.{◌≡◌, sym, ap, ◌∙◌, subst}
use Prim.Native.Nat.{ℕ, ◌+◌, ◌-◌, ◌≤◌, ◌<◌, max}
use native.Mathlib.Omega.{arith}
use mathlib.Core.Bool.{Bool, true, false}
use lib.ListN.{length}
use lib.Dec.{ltb}
use borrow.Author.Tests.{ltb-false}
use Rattle.volume.specs.Bytes.{Bytes}
use Rattle.volume.specs.Chain.{chain}
use Rattle.volume.specs.Geometry as On
use Rattle.volume.specs.Geometry.{Geometry}
use Rattle.volume.proofs.Chains.{chain_length}
use Rattle.volume.proofs.Follow.{Lies}
use Rattle.model.specs.Entry.{a_file}
use Rattle.model.specs.View.{next}
use Rattle.model.specs.EffectOf.{rewritten}
use Rattle.model.specs.Call.{write, refusal, granted}
use Rattle.model.specs.RefusalOf.{free_in}
use Rattle.model.specs.MeaningOf.{tree_of, answer, after}
use Rattle.model2.specs.Layout.{page_size, pages_for, code_in}
use Rattle.model2.specs.Entry.{is_locked}
use Rattle.model2.specs.Version2.{view2, layout2}
use Rattle.model2.specs.Calls.{v2}
use Rattle.laws2.proofs.Bounds.{bounds}
use Rattle.laws2.proofs.Owed2.{owed2}
use Rattle.arrivals.specs.Places.{the_file, placed, lock_in, name_in, date_in}
use Rattle.arrivals.proofs.Entries.{leads, among, file_owned, own_few}
use Rattle.arrivals.proofs.Settled as Settled
use Rattle.arrivals.proofs.Settled.{Refuses, placed_arrived}
use Rattle.arrivals.proofs.Writings as Any
use Rattle.arrivals.proofs.Writings.{Passed}
use Rattle.shape.specs.Geometry.{geometry_of}
use Rattle.known2.specs.Known.{Known}
use Rattle.changes2.specs.Asked.{Writing}
use Rattle.changes2.proofs.Sound2.{file_writing}
use Rattle.paths.specs.declared.Target.{Target}
use Rattle.paths.specs.declared.Place.TheVariants as place
use Rattle.places2.specs.declared.Arrived.{Arrived}
use Rattle.paths.specs.Places.{spot_of}
use Rattle.places2.proofs.Held.{reads2, Arrives, file_beside, known_at, at_file, file_entry, no_file, page_size_lem, file_small}
use Rattle.writes2.specs.Asked.{Counted}

module _ (b path : Bytes) (a : Arrived) (arrives : Arrives b path a) where
  pub write_directory : (from : ℕ) (v : Bytes) → ((t : Target) → a.place ≡ place.File t → ⊥) → Refuses v2 (write path from v) b (refusal 7)
  write_directory from v n = Any.write_no_file reads2 b path from v (spot_of a.place) (no_file a.place n) arrives.1

  known : Known b a.cartridge.shape a.cartridge.pages
  known = known_at b path a arrives

  module _ {t : Target} (is : a.place ≡ place.File t) where
    e : granted (the_file t.entry t.begins t.start.0 t.size) ≡ placed v2 b path
    e = at_file b path a arrives is

    its : Settled.Arrived v2 b path (the_file t.entry t.begins t.start.0 t.size)
    its = placed_arrived v2 b path (the_file t.entry t.begins t.start.0 t.size) e

    -- ---- the pages of the file, and the free ones

    few : On.free_count (geometry_of a.cartridge.shape) b + pages_for a.cartridge.shape.size t.size ≤ 1023
    few =
        let m = bounds known.formed.allowed in
        let r = reads2.readable b its.is_sound in
        let j : ℕ = pages_for (page_size (code_in b)) t.size in
        subst (λ (g : Geometry). On.free_count g b + pages_for g.size t.size ≤ 1023) (sym known.formed.made) (omega (
          arith,
          own_few known.facts r (chain (next (view2 b)) j t.start.0) (file_owned known.facts its.at.0 its.at.1),
          chain_length (next (view2 b)) j t.start.0,
          known.facts.counted,
          r.low,
          m.few,
        ))

    pub write_counted : {from : ℕ} → from ≤ t.size → Counted a.cartridge.shape t.size from b
    write_counted h =
        let m = bounds known.formed.allowed in
        record {
          lies = subst (λ (g : Geometry). Lies g.count b) (sym known.formed.made) (omega (arith, file_entry b path a arrives is));
          large = omega (arith, m.large, page_size_lem known);
          bound = omega (arith, m.bound, page_size_lem known);
          inside = h;
          sized = omega (arith, file_small known path e);
          few = few;
        }

    counts : On.free_count (geometry_of a.cartridge.shape) b ≡ free_in v2 (tree_of v2 b)
    counts = ap (λ (g : Geometry). On.free_count g b) known.formed.made ∙ sym (owed2.counts b its.is_sound).free

    mark : {r : Bool} → r ≡ is_locked b t.entry → r ≡ lock_in ((view2 b).entry_at t.entry)
    mark asked = asked ∙ (file_beside b t.entry its.at.1).0

    -- ---- the lines, in their order

    module _ (from : ℕ) (v : Bytes) {r : Bool} (asked : r ≡ is_locked b t.entry) where
      pub write_locked : r ≡ true → Refuses v2 (write path from v) b (refusal 25)
      write_locked = Any.write_locked reads2 b path from v e its.at.1 (mark asked)

      pub write_past : r ≡ false → t.size < from → Refuses v2 (write path from v) b (refusal 12)
      write_past = Any.write_past reads2 b path from v e its.at.1 (mark asked)

      -- past the lock and the position, the code says q of whether pages are lacking
      module _ (unmarked : r ≡ false) (inside : from ≤ t.size) {q : Bool}
          (lacks : q
          ≡ ltb (On.free_count (geometry_of a.cartridge.shape) b) (pages_for a.cartridge.shape.size (max t.size (from + length v)) - pages_for a.cartridge.shape.size t.size)) where
        passed : Passed v2 b path from t.entry t.begins t.start.0 t.size
        passed =
            let x = (view2 b).entry_at t.entry in
            record {
              there = e;
              name = name_in x;
              date = date_in x;
              is = its.at.1 ∙ ap (λ (m : Bool). a_file m (name_in x) (date_in x) t.start.0 t.size) (sym (mark asked) ∙ unmarked);
              inside = inside;
            }

        abbrev more : ℕ → ℕ
        more z = pages_for z (max t.size (from + length v)) - pages_for z t.size

        lacking : q ≡ ltb (On.free_count (geometry_of a.cartridge.shape) b) (more (page_size (code_in b)))
        lacking = lacks ∙ ap (λ (z : ℕ). ltb (On.free_count (geometry_of a.cartridge.shape) b) (more z)) (page_size_lem known)

        pub write_lacking : q ≡ true → Refuses v2 (write path from v) b (refusal 10)
        write_lacking = Any.write_lacking reads2 passed v counts lacking

        module _ (fits : q ≡ false) where
          pub write_nothing : length v ≡ 0 → (granted (tt {0}) ≡ answer v2 (write path from v) b) × (b ≡ after v2 (write path from v) b)
          write_nothing = Any.write_nothing reads2 passed v counts lacking fits

          pub writable : Writing a.cartridge.shape a.cartridge.pages t.entry t.start.0 t.size from v b
          writable =
              let x = its.at.0 in
              let l = leads (view2 b) known.facts x.ns x.page x.reached in
              let room : more (page_size (code_in b)) ≤ On.free_count (view2 b).geometry b =
              subst (λ (g : Geometry). more (page_size (code_in b)) ≤ On.free_count g b) known.formed.made
              (ltb-false (On.free_count (geometry_of a.cartridge.shape) b) (more (page_size (code_in b))) (sym lacking ∙ fits)) in
              file_writing known x.ns l.0 x.page l.1 t.entry (among known.facts x) its.at.1 l.2 from v inside
              (omega (arith, room, known.facts.counted))

          pub write_done : (length v ≡ 0 → ⊥) → {b' : Bytes} → b' ≡ rewritten layout2 view2 t.entry from v b
              → (granted (tt {0}) ≡ answer v2 (write path from v) b) × (b' ≡ after v2 (write path from v) b)
          write_done = Any.write_done reads2 passed v counts lacking fits

-- ---- a write of no bytes past those lines, in the words of the code's facts: the check finds these by itself at the return, whatever its test is called

module _ (b path : Bytes) (from : ℕ) (v : Bytes) (a : Arrived) {t : Target} {r q : Bool} (arrives : Arrives b path a)
    (is : a.place ≡ place.File t) (asked : r ≡ is_locked b t.entry) (unmarked : r ≡ false) (inside : from ≤ t.size)
    (lacks : q ≡ ltb (On.free_count (geometry_of a.cartridge.shape) b) (pages_for a.cartridge.shape.size (max t.size (from + length v)) - pages_for a.cartridge.shape.size t.size))
    (fits : q ≡ false) (z : length v ≡ 0) where
  nothing : (granted (tt {0}) ≡ answer v2 (write path from v) b) × (b ≡ after v2 (write path from v) b)
  nothing = write_nothing b path a arrives is from v asked unmarked inside lacks fits z

  pub nothing_answered : answer v2 (write path from v) b ≡ granted (tt {0})
  nothing_answered = sym nothing.0

  pub nothing_changed : after v2 (write path from v) b ≡ b
  nothing_changed = sym nothing.1
