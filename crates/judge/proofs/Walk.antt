-- A directory is judged entry by entry, each turn with fewer pages without an owner or as many, and an entry by its cases.
use mathlib.Core.Path.{◌≡◌, sym, subst, ◌∙◌}
use mathlib.Core.Logic.{◌≢◌}
use Prim.Native.Nat.{ℕ, zero, suc, ◌+◌, ◌-◌, ◌≤◌, ◌<◌}
use native.Mathlib.Nat.{le_refl, le_trans, sub-zero}
use native.Mathlib.Numerals.{add-one}
use native.Mathlib.Omega.{arith}
use native.Mathlib.Decide.{dec_lt}
use mathlib.Core.Bool.{Bool, true, false, not, false≢true}
use mathlib.Core.List.{List, map}
use lib.ListN.{length}
use borrow.Author.Tests.{eq-eqb, ne_eqb}
use Rattle.volume.specs.Bytes.{Bytes, byte_at}
use Rattle.volume.specs.Lists.{count_from}
use Rattle.model.specs.Layout.{page_count, pages_for}
use Rattle.model.specs.Entry.{is_locked, entry_count, entries, name_at, date_at, entry_at}
use Rattle.model.specs.Version1.{view}
use Rattle.model.specs.Effect.{is_vacant}
use Rattle.model.specs.Judge as Model
use Rattle.model.specs.Judge.{Judged, fault, clean, bad_entry, bad_chain}
use Rattle.model.specs.Judge.{then_judge, judge_page, judge_chain, fresh_name, judge_entry, judge_entries, judge_directory}
use Rattle.view_laws.specs.Marks.{unowned}
use Rattle.view_laws.proofs.Comes.{Kept, comes_entry, comes_directory, Any, any_tellable}
use Rattle.fields.specs.declared.Page.{Page}
use Rattle.fields.specs.declared.Entry.{Entry}
use Rattle.fields.specs.declared.Entry.TheVariants.{Vacant, File, Directory}
use Rattle.fields.specs.Read.{entry_of}
use Rattle.names.proofs.Steps.{and_false}
use Rattle.owning.specs.Marked.{Marked}
use Rattle.fresh.specs.Earlier.{position, earlier}
use Rattle.fields.proofs.Plain.{told, untold}
use Rattle.owning.proofs.Marks.{page_made}
use Rattle.judge.proofs.Placed.{paged}

-- ---- a directory, entry by entry

-- The walk of the directory on page p, begun at the marks m₀, stands before entry i at the marks m. Fuel for the pages that m₀ leaves is enough.
pub record Stands (b : Bytes) (p : ℕ) (m₀ : List ℕ) (i : ℕ) (m : List ℕ) : Type 0 where
  pub here : p < page_count b
  pub each : length m ≡ page_count b
  pub few : unowned m ≤ unowned m₀
  pub comes : (f : ℕ) → unowned m₀ ≤ f → judge_directory (suc f) (view b) p m₀
      ≡ judge_entries (judge_directory f (view b)) (view b) p i (earlier p i) (map (position p) (count_from i (entry_count p - i))) m

turn : (b : Bytes) (p : ℕ) (below : ℕ → List ℕ → Judged) (i : ℕ) (m : List ℕ) → i < entry_count p
    → judge_entries below (view b) p i (earlier p i) (map (position p) (count_from i (entry_count p - i))) m
    ≡ then_judge (judge_entry below (view b) p i (earlier p i) (entry_at b (position p i)) m)
    (judge_entries below (view b) p (i + 1) (earlier p (i + 1)) (map (position p) (count_from (i + 1) (entry_count p - (i + 1)))))
unfolding judge_entries count_from earlier
turn b p below i m h = let e : entry_count p - i ≡ suc (entry_count p - (i + 1)) = omega arith in rw (e, add-one i)

module _ {b : Bytes} {p : ℕ} {m₀ : List ℕ} where
  pub stands_first : Marked b m₀ → p < length m₀ → Stands b p m₀ 0 m₀
  unfolding judge_directory entries earlier
  stands_first marked h = record { here = omega arith; each = marked.each; few = le_refl _; comes = λ f u. rw (sub-zero (entry_count p)) }

  module _ {n i : ℕ} {m : List ℕ} (count : n ≡ entry_count p) (at : Stands b p m₀ i m) where
    pub stands_last : n ≤ i → (f : ℕ) → unowned m₀ ≤ f → clean m ≡ judge_directory (suc f) (view b) p m₀
    unfolding judge_entries count_from
    stands_last h f u = let e : entry_count p - i ≡ 0 = omega arith in sym (at.comes f u ∙ rw e)

    -- one turn: entry i is clean, and leaves the marks m', or has a fault
    module _ (more : i < n) where
      pub stands_next : (m' : List ℕ) → ((f : ℕ) → unowned m ≤ f → clean m' ≡ judge_entry (judge_directory f (view b)) (view b) p i (earlier p i) (entry_at b (position p i)) m)
          → Stands b p m₀ (i + 1) m'
      unfolding then_judge
      stands_next m' post =
          let u = unowned m in
          let any = any_tellable (view b) in
          let k : Kept Any (page_count b) m (clean m') = subst (Kept Any (page_count b) m) (sym (post u (le_refl _)))
          (comes_entry (paged b) any (judge_directory u (view b)) (judge_directory u (view b)) u
          (λ q l inside long less. comes_directory (paged b) any u u q l inside long less less)
          p i (earlier p i) (entry_at b (position p i)) m tt (λ j l. tt) at.each (le_refl _)).kept in
          record {
            here = at.here;
            each = k.0;
            few = le_trans k.1 at.few;
            comes = λ f h. at.comes f h ∙ turn b p (judge_directory f (view b)) i m (omega arith) ∙ rw (← post f (le_trans at.few h));
          }

      pub stands_faulty : {x : Model.Fault} → ((f : ℕ) → unowned m ≤ f → fault x ≡ judge_entry (judge_directory f (view b)) (view b) p i (earlier p i) (entry_at b (position p i)) m)
          → (f : ℕ) → unowned m₀ ≤ f → fault x ≡ judge_directory (suc f) (view b) p m₀
      unfolding then_judge
      stands_faulty post f h =
          sym (at.comes f h ∙ turn b p (judge_directory f (view b)) i m (omega arith) ∙ rw (← post f (le_trans at.few h)))

-- ---- an entry, by what was read at its position

module _ (b : Bytes) (d i at : ℕ) (r : Entry) (m : List ℕ) (here : at ≡ position d i)
    (read : entry_of r (is_locked b at) (name_at b at) (date_at b at) ≡ entry_at b at) where
  seen : {s : Entry} → r ≡ s
      → entry_of s (is_locked b (position d i)) (name_at b (position d i)) (date_at b (position d i)) ≡ entry_at b (position d i)
  seen e = rw (← here, ← e) read

  pub vacant_entry : (below : ℕ → List ℕ → Judged) → r ≡ Vacant → clean m ≡ judge_entry below (view b) d i (earlier d i) (entry_at b (position d i)) m
  unfolding judge_entry
  vacant_entry below e = rw (← seen e)

  -- an occupied entry has flags
  flags_of : is_vacant (entry_at b (position d i)) ≡ false → 1 ≤ byte_at b (position d i)
  unfolding entry_at is_vacant
  flags_of o = elim (dec_lt 0 (byte_at b (position d i))) [
    | yes h ↦ h
    | no h ↦ let e : byte_at b (position d i) ≡ 0 = omega arith in absurd (false≢true (sym o ∙ rw e))
  ]

  pub file_flags : (start : Page) (size : ℕ) → r ≡ File start size → 1 ≤ byte_at b (position d i)
  unfolding is_vacant
  file_flags start size e = flags_of (rw (← seen e))

  pub directory_flags : (start : Page) (size : ℕ) → r ≡ Directory start size → 1 ≤ byte_at b (position d i)
  unfolding is_vacant
  directory_flags start size e = flags_of (rw (← seen e))

  pub sized_directory : (start : Page) (size : ℕ) (below : ℕ → List ℕ → Judged) → r ≡ Directory start size → size ≢ 0x0100
      → fault (bad_entry d i) ≡ judge_entry below (view b) d i (earlier d i) (entry_at b (position d i)) m
  unfolding judge_entry
  sized_directory start size below e s = rw (← seen e, ne_eqb _ _ s, and_false _)

  module _ (start : Page) (size : ℕ) (fresh : Bool) (name : fresh ≡ fresh_name (view b) (earlier d i) (name_at b (position d i))) where
    module _ (below : ℕ → List ℕ → Judged) (file : r ≡ File start size) where
      pub stale_file : not fresh ≡ true → fault (bad_entry d i) ≡ judge_entry below (view b) d i (earlier d i) (entry_at b (position d i)) m
      unfolding judge_entry
      stale_file t = rw (← seen file, untold name t)

      pub fresh_file : not fresh ≡ false → (k : ℕ) → k ≡ pages_for size → (j : Judged) → j ≡ judge_chain (view b) d i k 0 start.0 m
          → j ≡ judge_entry below (view b) d i (earlier d i) (entry_at b (position d i)) m
      unfolding judge_entry
      fresh_file t k e j chain = rw (← seen file, told name t, ← e) chain

    module _ (directory : r ≡ Directory start size) where
      pub stale_directory : (below : ℕ → List ℕ → Judged) → not fresh ≡ true
          → fault (bad_entry d i) ≡ judge_entry below (view b) d i (earlier d i) (entry_at b (position d i)) m
      unfolding judge_entry
      stale_directory below t = rw (← seen directory, untold name t)

      -- its page gets its owner, and leaves the marks l, or has a fault
      module _ (t : not fresh ≡ false) (s : size ≡ 0x0100) where
        pub faulty_page : (below : ℕ → List ℕ → Judged) {x : Model.Fault} → fault x ≡ judge_page (view b) (bad_chain d i 0) start.0 m
            → fault x ≡ judge_entry below (view b) d i (earlier d i) (entry_at b (position d i)) m
        unfolding judge_entry then_judge
        faulty_page below page = rw (← seen directory, told name t, eq-eqb _ _ s, ← page)

        -- the directory on a page that got its owner is judged with one unit of fuel less
        pub directory_below : (l : List ℕ) → clean l ≡ judge_page (view b) (bad_chain d i 0) start.0 m → length m ≡ page_count b → (j : Judged) → ((f : ℕ) → unowned l ≤ f → j ≡ judge_directory (suc f) (view b) start.0 l)
            → (f : ℕ) → unowned m ≤ f → j ≡ judge_entry (judge_directory f (view b)) (view b) d i (earlier d i) (entry_at b (position d i)) m
        unfolding judge_entry then_judge
        directory_below l page each j post zero h = absurd (let k = page_made b (bad_chain d i 0) start.0 m l each page in omega arith)
        directory_below l page each j post (suc f) h =
            let k = page_made b (bad_chain d i 0) start.0 m l each page in
            rw (← seen directory, told name t, eq-eqb _ _ s, ← page) (post f (omega arith))

-- ---- a turn over a vacant entry

pub stands_vacant : {b : Bytes} {p : ℕ} {m₀ : List ℕ} {n i : ℕ} {m : List ℕ} → n ≡ entry_count p → Stands b p m₀ i m → i < n
    → (at : ℕ) (r : Entry) → at ≡ position p i → entry_of r (is_locked b at) (name_at b at) (date_at b at) ≡ entry_at b at → r ≡ Vacant
    → Stands b p m₀ (i + 1) m
stands_vacant {b} {p} {m₀} {n} {i} {m} count at₀ more at r here read e =
    stands_next count at₀ more m (λ f h. vacant_entry b p i at r m here read (judge_directory f (view b)) e)
