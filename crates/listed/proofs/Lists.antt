-- List: the row of a directory is read entry by entry, so entry i of the row is what the i-th entry on the page says.
use mathlib.Core.Path.{◌≡◌, refl, sym, ap, ap₂, ◌∙◌}
use Prim.Native.Nat.{ℕ, zero, suc, ◌+◌, ◌*◌, ◌≤◌, ◌<◌}
use native.Mathlib.Omega.{arith}
use mathlib.Core.Bool.{Bool}
use mathlib.Core.List.{map}
use lib.Dec.{leb, leb-zero, leb-suc-zero, leb-suc-suc}
use Rattle.volume.specs.Bytes.{Bytes}
use Rattle.std.specs.Prelude.{if◌then◌else◌}
use Rattle.volume.specs.Lists.{count_from}
use Rattle.model.specs.Layout.{page_size}
use Rattle.model.specs.Entry.{entry_count, entries_start, entries, is_locked, name_at, date_at, Entry, vacant, a_file, a_directory, entry_at}
use Rattle.model.specs.Version1.{view}
use Rattle.model.specs.Version.{v1}
use Rattle.model.specs.Call.{list, is_file, is_directory, Listed, empty, holds, Refusal, refusal, refusal_at, Answer, refused, granted}
use Rattle.model.specs.Meaning.{answer}
use Rattle.arrivals.specs.Listed as Of
use Rattle.arrivals.proofs.Lists as Any
use Rattle.places.specs.Places.{Spot, the_root, the_file, the_directory, placed}
use Rattle.places.proofs.Arrivals.{reads}
use borrow.Author.Tests.{le-leb, lt-leb}
use Rattle.answers.specs.Answers.{entry_told, entry_listed}

-- ---- the entries of a page

entries_listed : (b : Bytes) (s j n i : ℕ) → Of.listed_of page_size (view b) (map (λ k. s + 32 * k) (count_from j n)) i ≡ (if leb n i then refused (refusal 12) else granted (entry_told (entry_at b (s + 32 * (j + i)))))
unfolding Of.listed_of count_from
entries_listed b s j zero i = rw (leb-zero i)
entries_listed b s j (suc n) zero = let e : j + 0 ≡ j = omega arith in rw (leb-suc-zero n, e)
entries_listed b s j (suc n) (suc i) = let e : suc j + i ≡ j + suc i = omega arith in entries_listed b s (suc j) n i ∙ rw (leb-suc-suc n i, e)

page_listed : (b : Bytes) (p i : ℕ) → Of.listed_of page_size (view b) (entries p) i ≡ entry_listed b p i
unfolding entries entry_listed
page_listed b p i = let e : 0 + i ≡ i = omega arith in entries_listed b (entries_start p) 0 (entry_count p) i ∙ rw e

-- ---- the call

abbrev pub list_at : Bytes → ℕ → Spot → Answer Listed
list_at b i the_root = entry_listed b 0 i
list_at b i (the_file at begins start size) = refused (refusal_at 6 begins)
list_at b i (the_directory at begins start size) = entry_listed b start i

-- it is what is told there in any version
listed_there : (b : Bytes) (i : ℕ) (s : Spot) → Of.list_at v1 b i s ≡ list_at b i s
listed_there b i the_root = page_listed b 0 i
listed_there b i (the_file at begins start size) = refl
listed_there b i (the_directory at begins start size) = page_listed b start i

module _ (b path : Bytes) (i : ℕ) where
  pub list_refused : {m : Refusal} → refused m ≡ placed b path → refused m ≡ answer (list path i) b
  list_refused e = Any.list_refused reads b path i e

  pub list_at_file : {at begins start size : ℕ} → granted (the_file at begins start size) ≡ placed b path → refused (refusal_at 6 begins) ≡ answer (list path i) b
  list_at_file {at} {begins} {start} {size} e = Any.list_at_lem reads b path i (the_file at begins start size) e

  -- what is said of a place is said by the call
  pub list_at_lem : {x : Answer Listed} (s : Spot) → granted s ≡ placed b path → x ≡ list_at b i s → x ≡ answer (list path i) b
  list_at_lem s e h = h ∙ sym (listed_there b i s) ∙ Any.list_at_lem reads b path i s e

-- ---- one entry

module _ (b : Bytes) (p i : ℕ) where
  pub past_end : entry_count p ≤ i → refused (refusal 12) ≡ entry_listed b p i
  unfolding entry_listed
  past_end h = rw (le-leb (entry_count p) i h)

  module _ (h : i < entry_count p) {at : ℕ} (is : at ≡ entries_start p + 32 * i) where
    here : (x : Entry) → x ≡ entry_at b at → granted (entry_told x) ≡ entry_listed b p i
    unfolding entry_listed
    here x e = rw (lt-leb (entry_count p) i h, sym is, e)

    pub listed_vacant : vacant ≡ entry_at b at → granted empty ≡ entry_listed b p i
    unfolding Of.entry_told
    listed_vacant e = here vacant e

    module _ {name date : Bytes} (is_name : name ≡ name_at b at) (is_date : date ≡ date_at b at) where
      pub listed_file : {locked : Bool} {start k : ℕ} → locked ≡ is_locked b at → a_file (is_locked b at) (name_at b at) (date_at b at) start k ≡ entry_at b at
          → granted (holds (is_file locked) name k date) ≡ entry_listed b p i
      unfolding Of.entry_told
      listed_file {locked} {start} {k} l e =
          ap (λ (c : Bool). granted (holds (is_file c) name k date)) l ∙ ap₂ (λ (n d : Bytes). granted (holds (is_file (is_locked b at)) n k d)) is_name is_date
          ∙ here (a_file (is_locked b at) (name_at b at) (date_at b at) start k) e

      pub listed_directory : {start k : ℕ} → a_directory (name_at b at) (date_at b at) start k ≡ entry_at b at
          → granted (holds is_directory name page_size date) ≡ entry_listed b p i
      unfolding Of.entry_told
      listed_directory {start} {k} e =
          ap₂ (λ (n d : Bytes). granted (holds is_directory n page_size d)) is_name is_date
          ∙ here (a_directory (name_at b at) (date_at b at) start k) e
