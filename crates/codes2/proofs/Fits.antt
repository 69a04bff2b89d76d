-- Every refusal of version 2's calls has room in its code: an image whose header passes has at most 1,024 pages, and a fault is told by pages of the image, by
-- an entry's number on its own page, which has at most 32, or by 255, and by how many pages passed.
use mathlib.Core.Path.{◌≡◌}
use Prim.Native.Nat.{ℕ, suc, ◌-◌, ◌/◌, ◌≤◌, ◌<◌}
use native.Mathlib.Omega.{arith}
use native.Mathlib.Decide.{dec_lt}
use mathlib.Core.Bool.{Bool, true, false}
use mathlib.Core.List.{List, [], ◌∷◌, flat_map}
use lib.ListN.{length, length-append}
use lib.Dec.{eqb}
use borrow.Author.Tests.{lt-ltb, le-ltb}
use Rattle.volume.specs.Bytes.{Bytes}
use Rattle.std.specs.Prelude.{if◌then◌else◌}
use Rattle.volume.specs.Lists.{all}
use Rattle.volume.proofs.Occ.{Mem, mem_head, mem_tail}
use Rattle.model.specs.Judge.{Fault, fault, judge_view}
use Rattle.model.specs.RefusalOf.{Passes}
use Rattle.model.specs.MeaningOf.{length_line, header_lines}
use Rattle.view_laws.proofs.Comes.{Paged, Tellable, fault_told}
use Rattle.code_laws.proofs.Room.{in_code, Pointing, Roomy}
use Rattle.model2.specs.Layout.{page_size, page_count, root_start, code_in}
use Rattle.model2.specs.Version2.{entry_count, entries_on, place_on, view2}
use Rattle.model2.specs.Calls.{v2}
use Rattle.laws2.proofs.Bounds.{Allowed, bounds}
use Rattle.laws2.proofs.Version2.{tabled, shelved2, entries_count}
use Rattle.laws2.proofs.Judged2.{header_passed}

-- ---- the place of an entry

module _ (size n : ℕ) where
  -- it is on one of the directory's pages, and its number is one of that page's
  record Stands (ps : List ℕ) (place : ℕ × ℕ) : Type 0 where
    on : Mem place.0 ps
    within : place.1 < entry_count size n place.0

  stands : (ps : List ℕ) (i : ℕ) → i < length (flat_map (entries_on size n) ps) → Stands ps (place_on (entry_count size n) ps i)
  unfolding place_on flat_map
  stands [] i h = absurd (omega arith)
  stands (p ∷ ps) i h = elim (dec_lt i (entry_count size n p)) [
    | yes l ↦ rw (lt-ltb i (entry_count size n p) l) record { on = mem_head p ps; within = l }
    | no l ↦
        let many = length-append (entries_on size n p) (flat_map (entries_on size n) ps) in
        let below = stands ps (i - entry_count size n p) (omega (arith, h, many, entries_count size n p)) in
        rw (le-ltb i (entry_count size n p) (omega arith)) record { on = mem_tail _ p ps below.on; within = below.within }
  ]

  few_entries : size ≤ 1024 → (p : ℕ) → entry_count size n p ≤ 32
  few_entries most p = go (eqb p 0)
    where
      go : (c : Bool) → (if c then (size - root_start n) / 32 else size / 32) ≤ 32
      go true = omega arith
      go false = omega arith

-- ---- the faults of an image that lines 1 and 26 let pass

module _ (b : Bytes) (a : Allowed (code_in b) (length b)) where
  paged : Paged (view2 b)
  paged = let s = shelved2 a in record { headed = (s.regular b).headed; rooted = s.rooted b; low = (tabled a).one }

  in_place : (d i : ℕ) → ((q : ℕ) → Mem q ((view2 b).directory_pages d) → q < (view2 b).pages) → i < length ((view2 b).entries d)
      → (((view2 b).place_of d i).0 < 65536) × (((view2 b).place_of d i).1 < 65536)
  in_place d i inside l =
      let m = bounds a in
      let size : ℕ = page_size (code_in b) in
      let n : ℕ = page_count (code_in b) (length b) in
      let s = stands size n ((view2 b).directory_pages d) i l in
      (omega (arith, inside _ s.on, m.few), omega (arith, s.within, few_entries size n m.bound ((view2 b).place_of d i).0))

  tellable : Tellable (view2 b) Pointing
  tellable = record {
    entry = λ d i inside l. in_place d i inside l;
    chain = λ d i k inside l few. let p = in_place d i inside l in (p.0, p.1, omega (arith, few, (bounds a).few));
    root = λ k l few. (omega arith, omega arith, omega (arith, few, (bounds a).few));
    twice = λ p l. omega (arith, l, (bounds a).few);
    free = λ p l. omega (arith, l, (bounds a).few);
  }

  pointing : (f : Fault) → judge_view (view2 b) ≡ fault f → Pointing f
  pointing = fault_told {P = Pointing} paged tellable (λ p l. omega (arith, l, (bounds a).few)) tt (omega (arith, (bounds a).some))

pub roomy2 : Roomy v2
unfolding all in_code
roomy2 = record {
  handed = λ c n. tt;
  headed = λ b. tt;
  few = λ b e. (bounds (header_passed b e).allowed).few;
  pointing = λ b e f is. pointing b (header_passed b e).allowed f is;
}
