-- Write: the laws of `arrivals` at each place of version 1, where the pages wanted are counted against byte 3, which is the free number of a sound image; what
-- is granted fits.
use mathlib.Core.Path.{◌≡◌, sym, ap, ◌∙◌}
use Prim.Native.Nat.{ℕ, ◌+◌, ◌-◌, ◌≤◌, ◌<◌, max}
use native.Mathlib.Omega.{arith}
use mathlib.Core.Bool.{Bool, true, false}
use lib.ListN.{length}
use lib.Dec.{ltb}
use borrow.Author.Tests.{lt-ltb, ltb-false}
use Rattle.volume.specs.Bytes.{Bytes}
use Rattle.volume.specs.Chain.{chain}
use Rattle.volume.proofs.Chains.{chain_length}
use Rattle.model.specs.Layout.{pages_for, free_count, link}
use Rattle.model.specs.Entry.{is_locked, name_at, date_at, a_file, entry_at}
use Rattle.model.specs.Numbers.{numbers1}
use Rattle.model.specs.Version.{v1}
use Rattle.model.specs.Tree.{free_number}
use Rattle.model.specs.Path.{path_of}
use Rattle.model.specs.Image.{tree_of}
use Rattle.model.specs.Effect.{rewritten}
use Rattle.model.specs.Call.{write, Refusal, refusal, refused, granted}
use Rattle.model.specs.Meaning.{answer, after}
use Rattle.laws.proofs.Facts.{Facts}
use Rattle.laws.proofs.Counting.{fill_up, free_number_lem}
use Rattle.laws.proofs.Slots.{size}
use Rattle.arrivals.proofs.Writings as Any
use Rattle.paths.specs.declared.Target.{Target}
use Rattle.paths.specs.declared.Place.{Place}
use Rattle.paths.specs.declared.Place.TheVariants as place
use Rattle.paths.specs.Places.{spot_of}
use Rattle.places.specs.Places.{the_file, placed}
use Rattle.places.proofs.Arrivals.{Arrived, placed_arrived, reads}
use Rattle.places.proofs.Entries.{file_owned}
use Rattle.rewrites.specs.Asked.{Writing}
use Rattle.changes.proofs.Entries.{own_few}
use Rattle.rewrites.proofs.Writable.{writing}
use Rattle.answers.proofs.Files.{FileAt, at_file, at_no_file}

-- ---- the pages that a write wants

abbrev pub more : (k from n : ℕ) → ℕ
more k from n = pages_for (max k (from + n)) - pages_for k

-- more than 255 pages of 255 bytes no image has
pub too_long : (free k from n : ℕ) → 65025 < n → free + pages_for k ≤ 255 → true ≡ ltb free (more k from n)
too_long free k from n h l = sym (lt-ltb free (more k from n) (omega (arith, fill_up (max k (from + n)))))

pub no_longer : (free k from n : ℕ) → from + n ≤ k → false ≡ ltb free (more k from n)
no_longer = Any.no_longer numbers1

pub longer : (free k from n : ℕ) → k < from + n → ltb free (pages_for (from + n) - pages_for k) ≡ ltb free (more k from n)
longer free k from n h = let e : from + n ≡ max k (from + n) = omega arith in ap (λ (m : ℕ). ltb free (pages_for m - pages_for k)) e

pub pages_rise : (k n : ℕ) → k ≤ n → pages_for k ≤ pages_for n
unfolding pages_for
pages_rise k n h = omega arith

-- ---- what is known of the file at a place

module _ (b path : Bytes) (t : Target) (e : FileAt b path t) where
  there₂ : Arrived b path (the_file t.entry t.begins t.start.0 t.size)
  there₂ = placed_arrived b path (the_file t.entry t.begins t.start.0 t.size) e

  facts₂ : Facts b
  facts₂ = there₂.facts

  -- its pages and the free ones are fewer than 256
  pub few : free_count b + pages_for t.size ≤ 255
  few =
      let o = file_owned b facts₂ (path_of path) t.entry t.begins there₂.at.0 there₂.at.1 in
      omega (arith, own_few b facts₂ (chain (link b) (pages_for t.size) t.start.0) o, chain_length (link b) (pages_for t.size) t.start.0, facts₂.counted, (size facts₂).high)

  pub small : t.size < 65536
  small = omega (arith, fill_up t.size, few)

  pub long : 4 ≤ length b
  long = omega (arith, (size facts₂).low, (size facts₂).whole)

-- ---- the answer and the image

module _ (b path : Bytes) (from : ℕ) (v : Bytes) where
  -- a refusal leaves the image as it is
  abbrev Refuses : Refusal → Type 0
  Refuses m = (refused m ≡ answer (write path from v) b) × (b ≡ after (write path from v) b)

  pub write_refused : {m : Refusal} → refused m ≡ placed b path → Refuses m
  write_refused e = Any.write_refused reads b path from v e

  pub write_directory : (p : Place) → ((t : Target) → p ≡ place.File t → ⊥) → granted (spot_of p) ≡ placed b path → Refuses (refusal 7)
  write_directory p k e = let n = at_no_file p k e in Any.write_no_file reads b path from v (spot_of p) n.0 n.1

  module _ (t : Target) (e : FileAt b path t) where
    read : entry_at b t.entry ≡ a_file (is_locked b t.entry) (name_at b t.entry) (date_at b t.entry) t.start.0 t.size
    read = (placed_arrived b path (the_file t.entry t.begins t.start.0 t.size) e).at.1

    -- the code says r of the mark
    pub write_locked : {r : Bool} → r ≡ is_locked b t.entry → r ≡ true → Refuses (refusal 25)
    write_locked marked locked = Any.write_locked reads b path from v e read marked locked

    pub write_past : {r : Bool} → r ≡ is_locked b t.entry → r ≡ false → t.size < from → Refuses (refusal 12)
    write_past marked unmarked h = Any.write_past reads b path from v e read marked unmarked h

-- ---- past the lines of the place, the lock and the position

pub record Passed (b path : Bytes) (from : ℕ) (t : Target) : Type 0 where
  pub there : FileAt b path t
  pub unlocked : is_locked b t.entry ≡ false
  pub inside : from ≤ t.size

-- the code says q of whether pages are lacking
module _ {b path : Bytes} {from : ℕ} {t : Target} (p : Passed b path from t) (v : Bytes) {q : Bool} (counted : q ≡ ltb (free_count b) (more t.size from (length v))) where
  its : Arrived b path (the_file t.entry t.begins t.start.0 t.size)
  its = placed_arrived b path (the_file t.entry t.begins t.start.0 t.size) p.there

  passed : Any.Passed v1 b path from t.entry t.begins t.start.0 t.size
  passed = record {
    there = p.there;
    name = name_at b t.entry;
    date = date_at b t.entry;
    is = rw p.unlocked at its.at.1;
    inside = p.inside;
  }

  free : free_count b ≡ free_number (tree_of b)
  free = sym (free_number_lem its.facts)

  pub write_lacking : q ≡ true → Refuses b path from v (refusal 10)
  write_lacking lacks = Any.write_lacking reads passed v free counted lacks

  module _ (fits : q ≡ false) where
    pub write_nothing : length v ≡ 0 → (granted (tt {0}) ≡ answer (write path from v) b) × (b ≡ after (write path from v) b)
    write_nothing z = Any.write_nothing reads passed v free counted fits z

    pub writable : Writing t.entry t.start.0 t.size from v b
    writable = writing b its.facts (path_of path) t.entry t.begins its.at.0 its.at.1 from v p.inside
        (omega (arith, ltb-false (free_count b) (more t.size from (length v)) (sym counted ∙ fits), its.facts.counted))

    pub write_done : (length v ≡ 0 → ⊥) → {b' : Bytes} → b' ≡ rewritten t.entry from v b → (granted (tt {0}) ≡ answer (write path from v) b) × (b' ≡ after (write path from v) b)
    write_done z w = Any.write_done reads passed v free counted fits z w

-- ---- a lock, and a write of no bytes past the lines, in the words of the code's facts: the check finds these by itself at the returns, whatever their tests
-- are called

module _ (b path : Bytes) (from : ℕ) (v : Bytes) {p : Place} {t : Target} {r : Bool} (is : p ≡ place.File t)
    (arrives : granted (spot_of p) ≡ placed b path) (marked : r ≡ is_locked b t.entry) where
  pub locked_answered : r ≡ true → answer (write path from v) b ≡ refused (refusal 25)
  locked_answered locked = sym (write_locked b path from v t (at_file is arrives) marked locked).0

  pub locked_kept : r ≡ true → after (write path from v) b ≡ b
  locked_kept locked = sym (write_locked b path from v t (at_file is arrives) marked locked).1

  module _ (unmarked : r ≡ false) (inside : from ≤ t.size) {q : Bool} (counted : q ≡ ltb (free_count b) (more t.size from (length v))) (fits : q ≡ false)
      (z : length v ≡ 0) where
    nothing : (granted (tt {0}) ≡ answer (write path from v) b) × (b ≡ after (write path from v) b)
    nothing = write_nothing (record { there = at_file is arrives; unlocked = sym marked ∙ unmarked; inside = inside }) v counted fits z

    pub nothing_answered : answer (write path from v) b ≡ granted (tt {0})
    nothing_answered = sym nothing.0

    pub nothing_changed : after (write path from v) b ≡ b
    nothing_changed = sym nothing.1
