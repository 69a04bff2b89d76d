-- A refusal of entries has room in its code: its lines are those of list but for the last, and 12 has no place.
use mathlib.Core.Path.{◌≡◌, sym, subst}
use Prim.Native.Nat.{ℕ, ◌-◌, ◌/◌, min}
use native.Mathlib.Omega.{arith}
use mathlib.Core.List.{List, [], ◌∷◌, ◌++◌}
use lib.Dec.{T, ltb}
use borrow.Author.Tests.{lt-ltb}
use Rattle.volume.specs.Bytes.{Bytes}
use Rattle.volume.specs.Lists.{all}
use Rattle.volume.proofs.Tests.{both_and}
use Rattle.model.specs.Judge.{judge_view}
use Rattle.model.specs.Call.{Refusal, refusal, Answer, refused, granted}
use Rattle.model.specs.RefusalOf.{Line, Passes, path_line, walk_lines, walked_directory, settle}
use Rattle.model.specs.MeaningOf.{first_fault, sound_line, length_line, header_lines, tree_of}
use Rattle.version_laws.proofs.Lines.{settle_append}
use Rattle.code_laws.proofs.Stops.{Shallow, height_tree, directory_stops}
use Rattle.code_laws.proofs.Room.{in_code, answer_passes, AllIn, settle_in, settle_then, fault_in}
use Rattle.model2.specs.Version2.{view2}
use Rattle.model2.specs.Layout.{code_in}
use Rattle.model2.specs.Calls.{v2}
use Rattle.codes.specs.Codes.{Fits}
use Rattle.codes.proofs.Fits.{in_code_lem}
use Rattle.codes2.proofs.Fits.{roomy2}
use Rattle.lists2.specs.Entries.{width_there, entries_lines, entries_answer}

module _ (b path : Bytes) (first room : ℕ) where
  abbrev own : List Line
  own = path_line path ∷ walk_lines (walked_directory path (tree_of v2 b)) ++ ((ltb (width_there b path first) first, refusal 12) ∷ [])

  abbrev x : Answer (ℕ × ℕ)
  x = granted (min (room / 32) (width_there b path first - first), width_there b path first)

  own_in : Shallow (tree_of v2 b) → AllIn own
  unfolding all in_code
  own_in few = rw (lt-ltb _ _ (directory_stops (tree_of v2 b) few path)) tt

  image_in : Passes (length_line v2 b ∷ header_lines v2 b) → T (answer_passes in_code (settle (sound_line v2 b ∷ own) refused x))
  unfolding all
  image_in e =
      let tree : Shallow (tree_of v2 b) = omega (arith, roomy2.few b e, height_tree (view2 b) (code_in b)) in
      settle_in in_code (sound_line v2 b ∷ own) x
      (both_and (in_code (first_fault (judge_view (view2 b)))) _ (fault_in (view2 b) (roomy2.pointing b e)) (own_in tree)) tt

  entries_in : T (answer_passes in_code (entries_answer b path first room))
  unfolding entries_answer entries_lines all in_code
  entries_in =
      subst (λ (a : Answer (ℕ × ℕ)). T (answer_passes in_code a)) (sym (settle_append refused (length_line v2 b ∷ header_lines v2 b) (sound_line v2 b ∷ own) x))
      (settle_then in_code (length_line v2 b ∷ header_lines v2 b) (settle (sound_line v2 b ∷ own) refused x) (roomy2.headed b) image_in)

  pub entries_fits : {m : Refusal} → refused m ≡ entries_answer b path first room → Fits m.place
  entries_fits {m} e = (in_code_lem m (subst (λ (a : Answer (ℕ × ℕ)). T (answer_passes in_code a)) (sym e) entries_in)).place
