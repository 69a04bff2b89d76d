-- The entry of a name: an occupied one has its name and a vacant one none, and the first of a directory that has it is found in order.
use mathlib.Core.Path.{◌≡◌, refl, sym, ◌∙◌}
use Prim.Native.Nat.{ℕ, zero, suc, ◌+◌, ◌*◌, ◌≤◌, ◌<◌}
use native.Mathlib.Omega.{arith}
use mathlib.Core.Bool.{Bool, true, false}
use mathlib.Core.Option.{none, some}
use mathlib.Core.List.{map}
use lib.ListN.{length, get_or-eq_default}
use Rattle.std.specs.Prelude.{Option, None, Result, Err, ok_or, IsErrAnd}
use Rattle.std.proofs.lemmas.Result.{err_from_is_err_and}
use Rattle.volume.specs.Bytes.{Bytes}
use Rattle.volume.specs.Lists.{first, count_from}
use Rattle.model.specs.Layout.{page_size, page_count}
use Rattle.model.specs.Entry.{vacant, a_file, a_directory, entry_count, entries_start, entries, is_locked, name_at, date_at, entry_at}
use Rattle.model.specs.Version1.{view}
use Rattle.model.specs.Sound.{is_named}
use Rattle.model.specs.Path.{Name}
use Rattle.model.specs.Walk.{arrived, missing, blocked, entry_named, enter_on}
use Rattle.paths.specs.declared.Stop.{Stop}
use Rattle.paths.specs.declared.Stop.TheVariants.{Missing}
use Rattle.walk.specs.declared.Walk.{Walk}
use Rattle.walk.specs.Steps.{spot_of, walked_of, Small, entered}
use Rattle.fields.proofs.Searches.{Sought, sought_here, sought_next, sought_none}

-- ---- the entries of a directory, from entry i on: those before it have another name

abbrev pub Looked : Bytes → (p : ℕ) → Bytes → (i : ℕ) → Type 0
Looked b p n i = Sought (λ at. is_named n (entry_at b at)) p i

-- `end` entries are looked at, and entry i stands at `at`
module _ (b n : Bytes) (p i end : ℕ) (count : end ≡ entry_count p) (l : Looked b p n i) where
  module _ (h : i < end) (at : ℕ) (here : at ≡ entries_start p + 32 * i) (r : Bool) (asked : r ≡ is_named n (entry_at b at)) where
    pub looked_named : r ≡ true → some at ≡ entry_named (view b) p n
    unfolding entry_named
    looked_named e = rw here (sought_here l (omega arith) (rw here at (sym asked ∙ e)))

    pub looked_on : r ≡ false → Looked b p n (i + 1)
    looked_on e = sought_next l (omega arith) (rw here at (sym asked ∙ e))

  pub looked_last : end ≤ i → none ≡ entry_named (view b) p n
  unfolding entry_named
  looked_last h = sought_none l (omega arith)

-- ---- a page past the image

past_vacant : (b n : Bytes) (at : ℕ) → length b ≤ at → is_named n (entry_at b at) ≡ false
unfolding is_named entry_at
past_vacant b n at h = rw (get_or-eq_default b 0 h)

none_past : (b n : Bytes) (p i k : ℕ) → length b ≤ entries_start p
    → first (λ at. is_named n (entry_at b at)) (map (λ j. entries_start p + 32 * j) (count_from i k)) ≡ none
unfolding first count_from
none_past b n p i zero h = refl
none_past b n p i (suc k) h = rw (past_vacant b n (entries_start p + 32 * i) (omega arith)) (none_past b n p (suc i) k h)

pub page_past : (b n : Bytes) (p pages : ℕ) → page_size * page_count b ≡ length b → pages ≡ page_count b → pages ≤ p → none ≡ entry_named (view b) p n
unfolding entry_named entries
page_past b n p pages w e h = sym (none_past b n p 0 (entry_count p) (omega arith))

-- ---- one name on

module _ (b : Bytes) (begins : ℕ) (bytes : Bytes) (p : ℕ) where
  abbrev name : Name
  name = record { begins = begins; bytes = bytes }

  -- the exit of a search that finds none
  pub no_entry : (s : Option ℕ) (stop : Stop) (r : Result Walk Stop) → spot_of s ≡ entry_named (view b) p bytes
      → s ≡ None → Err stop ≡ ok_or s (Missing begins) → IsErrAnd r (λ y. y ≡ stop) → Small r × (walked_of r ≡ entered b name p)
  unfolding enter_on
  no_entry s stop r spot e told is =
      let q = err_from_is_err_and r is in
      let t : ◌≡◌ {A = Result ℕ Stop} (Err stop) (Err (Missing begins)) = rw e at told in
      let u : stop ≡ Missing begins = cc in rw (q.1, q.2, u, ← spot, e) (tt, refl)

  -- the entry that was found is read
  module _ (at : ℕ) (found : some at ≡ entry_named (view b) p bytes) where
    pub entry_vacant : vacant ≡ entry_at b at → missing begins ≡ entered b name p
    unfolding enter_on
    entry_vacant e = rw (← found, ← e)

    pub entry_file : {start size : ℕ} → a_file (is_locked b at) (name_at b at) (date_at b at) start size ≡ entry_at b at → blocked begins ≡ entered b name p
    unfolding enter_on
    entry_file e = rw (← found, ← e)

    pub entry_directory : {start size : ℕ} → a_directory (name_at b at) (date_at b at) start size ≡ entry_at b at → arrived start ≡ entered b name p
    unfolding enter_on
    entry_directory e = rw (← found, ← e)
