-- The two removals: the laws of `arrivals` at each place of version 1, and what the code asks of an image to give an entry's pages back.
use mathlib.Core.Path.{◌≡◌, refl, sym}
use Prim.Native.Nat.{ℕ, ◌<◌}
use native.Mathlib.Omega.{arith}
use mathlib.Core.Bool.{Bool, true, false, not}
use mathlib.Core.List.{foldl}
use lib.ListN.{length, set}
use Rattle.volume.specs.Bytes.{Bytes}
use Rattle.volume.specs.Lists.{all}
use Rattle.volume.specs.Chain.{chain}
use Rattle.volume.specs.Geometry as On
use Rattle.model.specs.Layout.{version1, page_count, pages_for, link}
use Rattle.model.specs.Entry.{is_locked, entries}
use Rattle.model.specs.Path.{path_of}
use Rattle.model.specs.Call.{remove_file, remove_directory, Refusal, refusal, refusal_at, refused, granted}
use Rattle.model.specs.Meaning.{answer, after}
use Rattle.arrivals.proofs.Removes as Any
use Rattle.paths.specs.declared.Target.{Target}
use Rattle.paths.specs.declared.Place.{Place}
use Rattle.paths.specs.declared.Place.TheVariants as place
use Rattle.paths.specs.Places.{spot_of}
use Rattle.places.specs.Places.{the_root, the_file, the_directory, placed}
use Rattle.places.proofs.Arrivals.{Arrived, placed_arrived, reads}
use Rattle.places.proofs.Entries.{directory_inside}
use Rattle.chains.specs.Asked.{Returned}
use Rattle.changes.proofs.Removals.{file_returned, directory_returned}
use Rattle.vacancies.proofs.Vacancies.{vacancy}
use Rattle.fields.proofs.Plain.{told as is-told, untold}
use Rattle.answers.proofs.Files.{FileAt, DirectoryAt, at_file, file_entry, directory_entry}

-- ---- the answer and the image

-- what a granted or refused call c says, that answers only that it was done
module _ (b path : Bytes) where
  abbrev FileRefuses : Refusal → Type 0
  FileRefuses m = (refused m ≡ answer (remove_file path) b) × (b ≡ after (remove_file path) b)

  abbrev DirectoryRefuses : Refusal → Type 0
  DirectoryRefuses m = (refused m ≡ answer (remove_directory path) b) × (b ≡ after (remove_directory path) b)

  pub file_refused : {m : Refusal} → refused m ≡ placed b path → FileRefuses m
  file_refused e = Any.remove_file_refused reads b path e

  pub file_root : granted the_root ≡ placed b path → FileRefuses (refusal 14)
  file_root e = Any.remove_file_root reads b path e

  pub directory_refused : {m : Refusal} → refused m ≡ placed b path → DirectoryRefuses m
  directory_refused e = Any.remove_directory_refused reads b path e

  pub directory_root : granted the_root ≡ placed b path → DirectoryRefuses (refusal 14)
  directory_root e = Any.remove_directory_root reads b path e

  module _ (t : Target) (e : FileAt b path t) where
    pub directory_is_file : DirectoryRefuses (refusal_at 6 t.begins)
    directory_is_file = Any.remove_directory_file reads b path e

    file_there : Arrived b path (the_file t.entry t.begins t.start.0 t.size)
    file_there = placed_arrived b path (the_file t.entry t.begins t.start.0 t.size) e

    pub file_asked : (n : ℕ) → n ≡ pages_for t.size → Returned b n t.start.0 × (t.entry < length b)
    file_asked n many =
        let s = file_there in
        (rw many (file_returned b s.facts (path_of path) t.entry t.begins s.at.0 s.at.1), omega (arith, file_entry b path t e))

    pub file_locked : (r : Bool) → r ≡ is_locked b t.entry → r ≡ true → FileRefuses (refusal 25)
    file_locked r asked marked = Any.remove_file_locked reads b path e file_there.at.1 asked marked

    pub file_done : (r : Bool) → r ≡ is_locked b t.entry → r ≡ false → (n : ℕ) → n ≡ pages_for t.size
        → {b' : Bytes} → b' ≡ set (foldl (On.released version1) b (chain (link b) n t.start.0)) t.entry 0
        → (granted (tt {0}) ≡ answer (remove_file path) b) × (b' ≡ after (remove_file path) b)
    file_done r asked unmarked n many gone = Any.remove_file_done reads b path e file_there.at.1 asked unmarked n many gone

  module _ (t : Target) (e : DirectoryAt b path t) where
    pub file_is_directory : FileRefuses (refusal 7)
    file_is_directory = Any.remove_file_directory reads b path e

    directory_there : Arrived b path (the_directory t.entry t.begins t.start.0 t.size)
    directory_there = placed_arrived b path (the_directory t.entry t.begins t.start.0 t.size) e

    pub directory_page : t.start.0 < page_count b
    directory_page = let s = directory_there in (directory_inside b s.facts (path_of path) t.entry t.begins s.at.0 s.at.1).1

    pub directory_asked : Returned b 1 t.start.0 × (t.entry < length b)
    directory_asked =
        let s = directory_there in
        (directory_returned b s.facts (path_of path) t.entry t.begins s.at.0 s.at.1, omega (arith, directory_entry b path t e))

    pub directory_held : (r : Bool) → r ≡ all (vacancy b) (entries t.start.0) → not r ≡ true → DirectoryRefuses (refusal 13)
    directory_held r asked held-some = Any.remove_directory_held reads b path e refl (untold asked held-some)

    pub directory_done : (r : Bool) → r ≡ all (vacancy b) (entries t.start.0) → not r ≡ false → {b' : Bytes}
        → b' ≡ set (foldl (On.released version1) b (chain (link b) 1 t.start.0)) t.entry 0
        → (granted (tt {0}) ≡ answer (remove_directory path) b) × (b' ≡ after (remove_directory path) b)
    unfolding chain
    directory_done r asked empty gone = Any.remove_directory_done reads b path e refl (is-told asked empty) gone

-- ---- a file behind the lock's test, in the words of the code's facts: the check finds these by itself at the returns, whatever the test is called

module _ (b path : Bytes) {p : Place} {t : Target} {r : Bool} (is : p ≡ place.File t) (arrives : granted (spot_of p) ≡ placed b path)
    (asked : r ≡ is_locked b t.entry) where
  pub locked_answered : r ≡ true → answer (remove_file path) b ≡ refused (refusal 25)
  locked_answered marked = sym (file_locked b path t (at_file is arrives) r asked marked).0

  pub locked_kept : r ≡ true → after (remove_file path) b ≡ b
  locked_kept marked = sym (file_locked b path t (at_file is arrives) r asked marked).1

  pub removed_answered : r ≡ false → answer (remove_file path) b ≡ granted (tt {0})
  removed_answered unmarked = sym (file_done b path t (at_file is arrives) r asked unmarked (pages_for t.size) refl refl).0

  pub removed_gone : r ≡ false → after (remove_file path) b ≡ set (foldl (On.released version1) b (chain (link b) (pages_for t.size) t.start.0)) t.entry 0
  removed_gone unmarked = sym (file_done b path t (at_file is arrives) r asked unmarked (pages_for t.size) refl refl).1
