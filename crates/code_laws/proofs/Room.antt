-- A refusal of a call has room in a code: its number is one of the table, and its place is the byte at which a walk stopped, that of a fault, or none.
use mathlib.Core.Path.{◌≡◌, refl, sym, subst}
use Prim.Native.Nat.{ℕ, ◌≤◌, ◌<◌}
use native.Mathlib.Omega.{arith}
use mathlib.Core.Bool.{Bool, true, false, not}
use mathlib.Core.Option.{none, some}
use mathlib.Core.List.{List, [], ◌∷◌, ◌++◌}
use lib.ListN.{length}
use lib.Dec.{T, leb, ltb}
use borrow.Author.Tests.{lt-ltb}
use Rattle.volume.specs.Bytes.{Bytes}
use Rattle.std.specs.Prelude.{if◌then◌else◌}
use Rattle.volume.specs.Lists.{all, conditions}
use Rattle.volume.proofs.Tests.{and_both, both_and}
use Rattle.model.specs.View.{View}
use Rattle.model.specs.Judge.{Fault, bad_entry, bad_chain, owned_twice, marked_free, lost_page, bad_count, Judged, fault, clean, judge_view}
use Rattle.model.specs.Tree.{Tree, is_full}
use Rattle.model.specs.Call.{format_as, verdict, find, list, read, make_file, make_directory, write, remove_file, remove_directory, set_lock, store_as, Told, Refusal, refusal, Answer, refused, granted}
use Rattle.model.specs.Version.{Version, Calls}
use Rattle.model.specs.RefusalOf.{Line, Passes, buffer_lines, handed_lines, full_lines, numbers_for, parent_row, space_line, make_lines, earlier, later, refusals, settle}
use Rattle.model.specs.MeaningOf.{told_on, first_fault, sound_line, length_line, header_lines, tree_of, is_format, lines, answer}
use Rattle.version_laws.proofs.Lines.{settle_append}
use Rattle.code_laws.proofs.Stops.{Shallow, height_tree, to_stops, directory_stops, parent_stops}

-- ---- what fits a code

-- a number that is not 0, and three numbers of a place that have room
unfoldable pub in_code : Refusal → Bool
in_code m = conditions (leb 1 m.number ∷ ltb m.number 256 ∷ ltb m.place.0 65536 ∷ ltb m.place.1 65536 ∷ ltb m.place.2 65536 ∷ [])

-- an answer that is no refusal, or one that passes a test
abbrev pub answer_passes : (Refusal → Bool) → {A : Type 0} → Answer A → Bool
answer_passes ok (refused m) = ok m
answer_passes ok (granted x) = true

abbrev pub AllPass : (Refusal → Bool) → List Line → Type 0
AllPass ok ls = T (all (λ (l : Line). ok l.1) ls)

abbrev pub AllIn : List Line → Type 0
AllIn ls = AllPass in_code ls

pub all_append : (ok : Refusal → Bool) (ls ms : List Line) → AllPass ok ls → AllPass ok ms → AllPass ok (ls ++ ms)
unfolding all
all_append ok [] ms h k = k
all_append ok (l ∷ ls) ms h k =
    let two = and_both (ok l.1) (all (λ (m : Line). ok m.1) ls) h in
    both_and (ok l.1) (all (λ (m : Line). ok m.1) (ls ++ ms)) two.0 (all_append ok ls ms two.1 k)

-- where every line's refusal passes, so does the answer, if what is answered past these lines does
pub settle_then : (ok : Refusal → Bool) {A : Type 0} (ls : List Line) (a : Answer A) → AllPass ok ls → (Passes ls → T (answer_passes ok a))
    → T (answer_passes ok (settle ls refused a))
unfolding settle all
settle_then ok [] a h k = k refl
settle_then ok {A} (l ∷ ls) a h k =
    let two = and_both (ok l.1) (all (λ (m : Line). ok m.1) ls) h in
    go l.0 two.0 k (settle_then ok ls a two.1)
  where
    go : (c : Bool) → T (ok l.1) → ((if c then some l.1 else settle ls some none) ≡ none → T (answer_passes ok a))
        → ((Passes ls → T (answer_passes ok a)) → T (answer_passes ok (settle ls refused a)))
        → T (answer_passes ok (if c then refused l.1 else settle ls refused a))
    go true t k next = t
    go false t k next = next k

pub settle_in : (ok : Refusal → Bool) {A : Type 0} (ls : List Line) (a : Answer A) → AllPass ok ls → T (answer_passes ok a) → T (answer_passes ok (settle ls refused a))
settle_in ok ls a h k = settle_then ok ls a h (λ e. k)

-- ---- the place of a fault

abbrev pub Pointing : Fault → Type 0
Pointing (bad_entry d i) = (d < 65536) × (i < 65536)
Pointing (bad_chain d i passed) = (d < 65536) × (i < 65536) × (passed < 65536)
Pointing (owned_twice p) = p < 65536
Pointing (marked_free p) = p < 65536
Pointing (lost_page p) = p < 65536
Pointing bad_count = Unit {0}

pub fault_in : (v : View) → ((f : Fault) → judge_view v ≡ fault f → Pointing f) → T (in_code (first_fault (judge_view v)))
unfolding in_code all
fault_in v = go (judge_view v)
  where
    go : (j : Judged) → ((f : Fault) → j ≡ fault f → Pointing f) → T (in_code (first_fault j))
    go (fault (bad_entry d i)) h = let p = h _ refl in rw (lt-ltb d 65536 p.0, lt-ltb i 65536 p.1) tt
    go (fault (bad_chain d i passed)) h = let p = h _ refl in rw (lt-ltb d 65536 p.0, lt-ltb i 65536 p.1, lt-ltb passed 65536 p.2) tt
    go (fault (owned_twice p)) h = rw (lt-ltb p 65536 (h _ refl)) tt
    go (fault (marked_free p)) h = rw (lt-ltb p 65536 (h _ refl)) tt
    go (fault (lost_page p)) h = rw (lt-ltb p 65536 (h _ refl)) tt
    go (fault bad_count) h = tt
    go (clean marks) h = tt

-- ---- the lines of a version's calls

buffer_in : (w : Version) (c : Calls w) → AllIn (buffer_lines c)
unfolding all in_code
buffer_in w (format_as new) = tt
buffer_in w verdict = tt
buffer_in w (find path) = tt
buffer_in w (list path i) = tt
buffer_in w (read path at room) = tt
buffer_in w (make_file path date) = tt
buffer_in w (make_directory path date) = tt
buffer_in w (write path at v) = tt
buffer_in w (remove_file path) = tt
buffer_in w (remove_directory path) = tt
buffer_in w (set_lock locked path) = tt
buffer_in w (store_as has path date v k buffer) = tt

-- What a version owes: the numbers of its header and of what format is handed; and of an image whose length and header pass, that its tree is shallow and
-- where its faults are.
pub record Roomy (w : Version) : Type 0 where
  pub handed : (c : Calls w) (n : ℕ) → AllIn (handed_lines w c n)
  pub headed : (b : Bytes) → AllIn (header_lines w b)
  pub few : (b : Bytes) → Passes (length_line w b ∷ header_lines w b) → (w.see b).pages ≤ 1024
  pub pointing : (b : Bytes) → Passes (length_line w b ∷ header_lines w b) → (f : Fault) → judge_view (w.see b) ≡ fault f → Pointing f

module _ {w : Version} (r : Roomy w) where
  make_in : (path date : Bytes) (t : Tree) → Shallow t → AllIn (make_lines w path date t)
  unfolding make_lines all in_code
  make_in path date t few = rw (lt-ltb _ _ (parent_stops t few path)) (go (numbers_for w t).grows)
    where
      go : (g : Bool) → AllIn (if g then [] else ((is_full (parent_row path t), refusal 9) ∷ []))
      go true = tt
      go false = tt

  -- a call's own lines
  pub own_in : (c : Calls w) (t : Tree) → Shallow t → AllIn (refusals w c t)
  unfolding refusals earlier later all in_code
  own_in (format_as new) t few = all_append in_code (handed_lines w (format_as new) _) (space_line w (format_as new) t ∷ []) (r.handed (format_as new) _) tt
  own_in verdict t few = tt
  own_in (find path) t few = rw (lt-ltb _ _ (to_stops t few path)) tt
  own_in (list path i) t few = rw (lt-ltb _ _ (directory_stops t few path)) tt
  own_in (read path at room) t few = rw (lt-ltb _ _ (to_stops t few path)) tt
  own_in (make_file path date) t few = all_append in_code (make_lines w path date t) (space_line w (make_file path date) t ∷ []) (make_in path date t few) tt
  own_in (make_directory path date) t few = all_append in_code (make_lines w path date t) (space_line w (make_directory path date) t ∷ []) (make_in path date t few) tt
  own_in (write path at v) t few = rw (lt-ltb _ _ (to_stops t few path)) tt
  own_in (remove_file path) t few = rw (lt-ltb _ _ (to_stops t few path)) tt
  own_in (remove_directory path) t few = rw (lt-ltb _ _ (directory_stops t few path)) tt
  own_in (set_lock locked path) t few = rw (lt-ltb _ _ (to_stops t few path)) tt
  own_in (store_as has path date v k buffer) t few =
      all_append in_code (make_lines w path date t) (space_line w (store_as has path date v k buffer) t ∷ later w (store_as has path date v k buffer) t) (make_in path date t few) tt

  -- an image whose length and header pass is judged, and then its tree is asked
  image_in : (c : Calls w) (b : Bytes) → Passes (length_line w b ∷ header_lines w b) → T (answer_passes in_code (settle (sound_line w b ∷ refusals w c (tree_of w b)) refused (granted (told_on w c b))))
  unfolding all
  image_in c b e =
      let tree : Shallow (tree_of w b) = omega (arith, r.few b e, height_tree (w.see b) (w.code_in b)) in
      settle_in in_code (sound_line w b ∷ refusals w c (tree_of w b)) (granted (told_on w c b))
      (both_and (in_code (first_fault (judge_view (w.see b)))) _ (fault_in (w.see b) (r.pointing b e)) (own_in c (tree_of w b) tree)) tt

  -- every refusal that a call gives
  pub answer_in : (c : Calls w) (b : Bytes) → T (answer_passes in_code (answer w c b))
  unfolding answer lines all in_code
  answer_in c b =
      subst (λ (a : Answer (Told c)). T (answer_passes in_code a)) (sym (settle_append refused (buffer_lines c) _ (granted (told_on w c b))))
      (settle_in in_code (buffer_lines c) _ (buffer_in w c) (go (is_format c)))
    where
      x : Answer (Told c)
      x = granted (told_on w c b)

      rest : List Line
      rest = sound_line w b ∷ refusals w c (tree_of w b)

      go : (m : Bool) → T (answer_passes in_code (settle (length_line w b ∷ (if m then handed_lines w c (length b) else (header_lines w b ++ rest))) refused x))
      go true = settle_in in_code (length_line w b ∷ handed_lines w c (length b)) x (r.handed c (length b)) tt
      go false =
          subst (λ (a : Answer (Told c)). T (answer_passes in_code a)) (sym (settle_append refused (length_line w b ∷ header_lines w b) rest x))
          (settle_then in_code (length_line w b ∷ header_lines w b) (settle rest refused x) (r.headed b) (image_in c b))
