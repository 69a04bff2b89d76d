-- A writing by its parts: once what stands before the rows has passed and the rows are good, the base's calls in turn are refused by the lines of 9 and 10
-- and leave what the writing leaves. A file that no image has room for is refused alike, whatever its bytes.
use mathlib.Core.Path.{◌≡◌, refl, sym, ap, ◌∙◌, subst}
use mathlib.Core.Logic.{inl, inr}
use Prim.Native.Nat.{◌≤◌, ◌<◌}
use native.Mathlib.Omega.{arith}
use mathlib.Core.Bool.{Bool, true, false, not}
use mathlib.Core.Option.{none, some}
use mathlib.Core.List.{List, [], ◌∷◌, ◌++◌}
use lib.ListN.{length}
use lib.Dec.{T}
use Rattle.volume.specs.Bytes.{Bytes}
use Rattle.model.specs.Layout.{pages_for}
use Rattle.model.specs.Sound.{sound}
use Rattle.model.specs.Tree.{Tree, free_number}
use Rattle.model.specs.Image.{tree_of}
use Rattle.model.specs.Path.{path_of, is_no_path, is_root, names}
use Rattle.model.specs.Walk.{node_named, in_walked, walk_to, arrived_or}
use Rattle.model.specs.Call.{Call, make_file, write, remove_file, Refusal, refusal, Answer, refused, granted}
use Rattle.model.specs.Refusal.{Line, is_missing, is_blocked, is_there, is_directory_node, is_locked_node, content_in, size, wanted, earlier, refusals, settle, Passes}
use Rattle.model.specs.Meaning.{image_lines, tree_after, after}
use Rattle.model.specs.Demands.{replay}
use Rattle.model.specs.DemandsOf
use Rattle.model.specs.MeaningOf
use Rattle.model.specs.RefusalOf
use Rattle.laws.proofs.Lines.{granted_passed, settle_append, settle_both, settle_refused}
use Rattle.laws.proofs.Passed.{image_passed}
use Rattle.laws.proofs.Steps.{as_tree_lem, want_of_pages_lem}
use Rattle.link_list.specs.declared.Row.{Row}
use Rattle.link_list.specs.Coding.{file_of}
use Rattle.link_list.specs.Judging.{bad_row}
use Rattle.link_list.specs.Links.{write_links, links_name, links_path, node_in, removal, writing, bad_row_line, room_lines, old_lines, link_lines, link_told, turns_of, link_answer, run_after, link_after}
use Rattle.link_list.proofs.Writing.{links_key, Old, old_passed, links_named, cleared, settle_passed, Stands, made_stands}
use Rattle.link_list.proofs.Steps.{run_sound}
use Rattle.link_list.proofs.ReadBack.{removal_granted}
use Rattle.link_old.specs.Before.{old_settled}
use Rattle.link_anew.specs.Anew.{replacing, then_answer, run_answer, if_granted, run_whole}
use Rattle.link_writes.specs.Writing.{StandsFor}
use Rattle.link_files.proofs.Depth.{path_short, file_free}
use Rattle.link_old.proofs.Before.{passed_there}

-- ---- the calls in turn, by their lines

and_settle : {A B : Type 0} (ls : List Line) (y : A) (x : Answer B) → then_answer (settle ls refused (granted y)) x ≡ settle ls refused x
unfolding then_answer
and_settle {A} {B} ls y x = settle_both (λ (a : Answer A) (z : Answer B). then_answer a x ≡ z) ls refused (granted y) refused x (λ r. refl) (λ p. refl)

if_settle : {A : Type 0} (ls : List Line) (y : A) (b b' : Bytes) → if_granted (settle ls refused (granted y)) b b' ≡ settle ls (λ f. b) b'
unfolding if_granted
if_settle {A} ls y b b' = settle_both (λ (a : Answer A) (z : Bytes). if_granted a b b' ≡ z) ls refused (granted y) (λ f. b) b' (λ r. refl) (λ p. refl)

module _ (b : Bytes) (h : T (sound b)) (path : Bytes) (cs : List Call) where
  removal_turn : run_answer (remove_file path ∷ cs) b ≡ settle (refusals (remove_file path) (tree_of b)) refused (run_answer cs (after (remove_file path) b))
  unfolding run_answer MeaningOf.tree_answer MeaningOf.told
  removal_turn =
      ap (λ (a : Answer (Unit {0})). then_answer a (run_answer cs (after (remove_file path) b))) (as_tree_lem (remove_file path) b h).answered
      ∙ and_settle (refusals (remove_file path) (tree_of b)) tt (run_answer cs (after (remove_file path) b))

  make_turn : (date : Bytes) → run_answer (make_file path date ∷ cs) b ≡ settle (refusals (make_file path date) (tree_of b)) refused (run_answer cs (after (make_file path date) b))
  unfolding run_answer MeaningOf.tree_answer MeaningOf.told
  make_turn date =
      ap (λ (a : Answer (Unit {0})). then_answer a (run_answer cs (after (make_file path date) b))) (as_tree_lem (make_file path date) b h).answered
      ∙ and_settle (refusals (make_file path date) (tree_of b)) tt (run_answer cs (after (make_file path date) b))

  write_turn : (v : Bytes) → run_answer (write path 0 v ∷ cs) b ≡ settle (refusals (write path 0 v) (tree_of b)) refused (run_answer cs (after (write path 0 v) b))
  unfolding run_answer MeaningOf.tree_answer MeaningOf.told
  write_turn v =
      ap (λ (a : Answer (Unit {0})). then_answer a (run_answer cs (after (write path 0 v) b))) (as_tree_lem (write path 0 v) b h).answered
      ∙ and_settle (refusals (write path 0 v) (tree_of b)) tt (run_answer cs (after (write path 0 v) b))

-- the lines of a make, and of the write after it
abbrev anew : (path date v : Bytes) → Tree → List Line
anew path date v t = refusals (make_file path date) t ++ refusals (write path 0 v) (tree_after (make_file path date) t)

make_write : (b : Bytes) → T (sound b) → (path date v : Bytes) → run_answer (make_file path date ∷ write path 0 v ∷ []) b ≡ settle (anew path date v (tree_of b)) refused (granted tt)
unfolding run_answer
make_write b h path date v =
    let s = as_tree_lem (make_file path date) b h in
    make_turn b h path (write path 0 v ∷ []) date
    ∙ ap (settle (refusals (make_file path date) (tree_of b)) refused)
    (write_turn (after (make_file path date) b) s.is_sound path [] v ∙ ap (λ (u : Tree). settle (refusals (write path 0 v) u) refused (granted tt)) s.means)
    ∙ sym (settle_append refused (refusals (make_file path date) (tree_of b)) (refusals (write path 0 v) (tree_after (make_file path date) (tree_of b))) (granted tt))

module _ (d date b : Bytes) (h : T (sound b)) (o : Old d date (tree_of b)) where
  abbrev tree : Tree
  tree = tree_of b

  abbrev path : Bytes
  path = links_path d

  -- without the old file
  abbrev bare : Tree
  bare = replay (removal d tree) tree

  replaced : (old : Bool) → is_there (node_in d links_name tree) ≡ old → (v : Bytes) → run_answer (replacing path date old v) b ≡ settle (anew path date v bare) refused (granted tt)
  unfolding replacing removal DemandsOf.replay
  replaced false e v = rw e (make_write b h path date v)
  replaced true e v =
      let s = as_tree_lem (remove_file path) b h in
      let passes : Passes (refusals (remove_file path) tree) = (rw e at (removal_granted d date tree o)).0 in
      rw e (removal_turn b h path (make_file path date ∷ write path 0 v ∷ []) ∙ settle_passed (refusals (remove_file path) tree) refused _ passes
      ∙ make_write (after (remove_file path) b) s.is_sound path date v ∙ ap (λ (u : Tree). settle (anew path date v u) refused (granted tt)) s.means)

  -- ---- a file that no image has room for

  made : Bytes
  made = after (make_file path date) (run_after (removal d tree) b)

  made_sound : T (sound made) × (tree_of made ≡ tree_after (make_file path date) bare)
  unfolding made
  made_sound =
      let r = run_sound (removal d tree) b h in
      let s = as_tree_lem (make_file path date) (run_after (removal d tree) b) r.0 in
      (s.is_sound, s.means ∙ ap (tree_after (make_file path date)) r.1)

  module _ (passes : Passes (refusals (make_file path date) bare)) where
    stands : Stands d date [] (tree_after (make_file path date) bare)
    stands = made_stands d date o.is_path bare (cleared b h d date o) passes

    few_free : free_number (tree_after (make_file path date) bare) ≤ 254
    unfolding pages_for
    few_free =
        let m = made_sound in
        let s = subst (Stands d date []) (sym m.1) stands in
        let f = file_free made m.0 (names (path_of d)) s.row links_key false date [] s.leads s.holds_it in
        let e : free_number (tree_after (make_file path date) bare) ≡ free_number (tree_of made) = ap free_number (sym m.1) in
        omega (arith, e)

    too_long : (v : Bytes) → 65025 < length v → {A : Type 0} (g : Refusal → A) (x : A) → settle (refusals (write path 0 v) (tree_after (make_file path date) bare)) g x ≡ g (refusal 10)
    unfolding MeaningOf.tree_answer RefusalOf.earlier RefusalOf.wanted pages_for settle is_no_path is_root walk_to in_walked node_named is_missing is_blocked arrived_or is_directory_node is_locked_node content_in
    too_long v l g x =
        let t : Tree = tree_after (make_file path date) bare in
        let s = stands in
        let named = (links_named d o.is_path).1 in
        let empty : size path t ≡ 0 = rw (named, s.leads, s.holds_it) refl in
        let first : Passes (earlier (write path 0 v) t) = rw (named, s.leads, s.holds_it) refl in
        let more : free_number t < wanted (write path 0 v) t = let f = few_free in omega (arith, empty) in
        settle_refused (refusals (write path 0 v) t) _ (refusal 10) g x ((want_of_pages_lem (write path 0 v) t).1 (first, more))

  -- so that is all that counts
  room_alike : (v w : Bytes) → StandsFor v w → {A : Type 0} (g : Refusal → A) (x : Bytes → A) → settle (anew path date v bare) g (x v) ≡ settle (anew path date w bare) g (x w)
  room_alike v w (inl e) g x = ap (λ (u : Bytes). settle (anew path date u bare) g (x u)) e
  room_alike v w (inr l) {A} g x =
      let makes = refusals (make_file path date) bare in
      let after-v = refusals (write path 0 v) (tree_after (make_file path date) bare) in
      let after-w = refusals (write path 0 w) (tree_after (make_file path date) bare) in
      settle_append g makes after-v (x v)
      ∙ settle_both (λ (p q : A). p ≡ q) makes g (settle after-v g (x v)) g (settle after-w g (x w)) (λ r. refl)
      (λ p. too_long p v l.0 g (x v) ∙ sym (too_long p w l.1 g (x w)))
      ∙ sym (settle_append g makes after-w (x w))

-- ---- the whole call

module _ (d date b : Bytes) (old : Bool) (before : granted old ≡ old_settled d date b) where
  pub all_passed : Passes (image_lines b ++ old_lines d date (tree_of b))
  unfolding old_settled
  all_passed = granted_passed (image_lines b ++ old_lines d date (tree_of b)) (is_there (node_in d links_name (tree_of b))) old (sym before)

  old_is : is_there (node_in d links_name (tree_of b)) ≡ old
  unfolding old_settled
  old_is = let e : granted (is_there (node_in d links_name (tree_of b))) ≡ granted old = sym (before ∙ settle_passed (image_lines b ++ old_lines d date (tree_of b)) refused (granted (is_there (node_in d links_name (tree_of b)))) all_passed) in cc e

module _ (d date b : Bytes) (rs : List Row) where
  -- what stands before the rows stands above all
  above : {A : Type 0} (g : Refusal → A) (x : A) → settle (image_lines b ++ link_lines (write_links d date rs) (tree_of b)) g x
      ≡ settle (image_lines b ++ old_lines d date (tree_of b)) g (settle (bad_row_line (bad_row rs) ++ room_lines d date rs (tree_of b)) g x)
  unfolding link_lines
  above g x =
      let i = image_lines b in
      let o = old_lines d date (tree_of b) in
      let r = bad_row_line (bad_row rs) ++ room_lines d date rs (tree_of b) in
      settle_append g i (o ++ r) x ∙ ap (settle i g) (settle_append g o r x) ∙ sym (settle_append g i o (settle r g x))

  pub old_refused : (f : Refusal) → refused f ≡ old_settled d date b → (refused f ≡ link_answer (write_links d date rs) b) × (b ≡ link_after (write_links d date rs) b)
  unfolding old_settled link_answer link_after
  old_refused f e =
      let ls = image_lines b ++ old_lines d date (tree_of b) in (
        sym (above refused _ ∙ settle_refused ls (is_there (node_in d links_name (tree_of b))) f refused _ (sym e)),
        sym (above (λ r. b) _ ∙ settle_refused ls (is_there (node_in d links_name (tree_of b))) f (λ r. b) _ (sym e)),
      )

  module _ (old : Bool) (before : granted old ≡ old_settled d date b) where
    rows_bad : (f : Refusal) → some f ≡ bad_row rs → {A : Type 0} (g : Refusal → A) (x : A) → settle (image_lines b ++ link_lines (write_links d date rs) (tree_of b)) g x ≡ g f
    unfolding bad_row_line settle
    rows_bad f e g x =
        let told : settle (bad_row_line (bad_row rs) ++ room_lines d date rs (tree_of b)) g x ≡ g f = rw (sym e) refl in
        above g x ∙ settle_passed (image_lines b ++ old_lines d date (tree_of b)) g (settle (bad_row_line (bad_row rs) ++ room_lines d date rs (tree_of b)) g x) (all_passed d date b old before) ∙ told

    pub rows_refused : (f : Refusal) → some f ≡ bad_row rs → (refused f ≡ link_answer (write_links d date rs) b) × (b ≡ link_after (write_links d date rs) b)
    unfolding link_answer link_after
    rows_refused f e = (sym (rows_bad f e refused _), sym (rows_bad f e (λ r. b) _))

    rows_good : none ≡ bad_row rs → {A : Type 0} (g : Refusal → A) (x : A)
        → settle (image_lines b ++ link_lines (write_links d date rs) (tree_of b)) g x ≡ settle (room_lines d date rs (tree_of b)) g x
    unfolding bad_row_line
    rows_good e g x = above g x ∙ settle_passed _ g _ (all_passed d date b old before) ∙ rw (sym e) refl

    -- the calls in turn, for a list that may be written
    pub all_written : none ≡ bad_row rs → (v : Bytes) → StandsFor v (file_of rs)
        → (run_answer (replacing (links_path d) date old v) b ≡ link_answer (write_links d date rs) b) × (run_whole (replacing (links_path d) date old v) b ≡ link_after (write_links d date rs) b)
    unfolding link_answer link_after link_told turns_of writing removal room_lines run_whole replacing
    all_written e v k =
        let h = image_passed b (old_lines d date (tree_of b)) (all_passed d date b old before) in
        let o = old_passed d date (tree_of b) h.1 in
        let runs = replaced d date b h.0 o old (old_is d date b old before) v in
        let lines = anew (links_path d) date v (replay (removal d (tree_of b)) (tree_of b)) in
        let image : Bytes → Bytes = λ w. run_after (replacing (links_path d) date old w) b in
        let same-calls : image (file_of rs) ≡ run_after (writing d date rs (tree_of b)) b = rw (old_is d date b old before) refl in (
          runs ∙ room_alike d date b h.0 o v (file_of rs) k refused (λ w. granted tt) ∙ sym (rows_good e refused _),
          ap (λ (a : Answer (Unit {0})). if_granted a b (image v)) runs ∙ if_settle lines tt b (image v) ∙ room_alike d date b h.0 o v (file_of rs) k (λ f. b) image
              ∙ ap (settle (room_lines d date rs (tree_of b)) (λ f. b)) same-calls ∙ sym (rows_good e (λ f. b) _),
        )

  -- a bad row is told below what stands before the rows
  pub row_refused : (f : Refusal) → some f ≡ bad_row rs
      → (then_answer (old_settled d date b) (refused f) ≡ link_answer (write_links d date rs) b) × (b ≡ link_after (write_links d date rs) b)
  unfolding then_answer
  row_refused f e = go (old_settled d date b) refl
    where
      go : (a : Answer Bool) → a ≡ old_settled d date b → (then_answer a (refused f) ≡ link_answer (write_links d date rs) b) × (b ≡ link_after (write_links d date rs) b)
      go (refused g) k = old_refused g k
      go (granted old) k = rows_refused old k f e

  -- what stands before the rows refuses a path that no directory has
  pub path_refused : (T (not (is_no_path (path_of d))) → 4335 < length d) → (x : Answer (Unit {0}))
      → (then_answer (old_settled d date b) x ≡ link_answer (write_links d date rs) b) × (b ≡ link_after (write_links d date rs) b)
  unfolding then_answer
  path_refused long x = go (old_settled d date b) refl
    where
      go : (a : Answer Bool) → a ≡ old_settled d date b → (then_answer a x ≡ link_answer (write_links d date rs) b) × (b ≡ link_after (write_links d date rs) b)
      go (refused g) k = old_refused g k
      go (granted old) k =
          let t = passed_there b d date (all_passed d date b old k) in
          absurd (omega (arith, long t.is_path, path_short b t.is_sound d t.is_path t.row t.leads))
