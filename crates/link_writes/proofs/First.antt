-- The make of LINKS asks what a writing asks before the rows: it is refused by the same lines, and where they pass it tells by 8 whether there is an old file;
-- then the removal is refused by 7 and 25 as the writing is.
use mathlib.Core.Path.{◌≡◌, refl, sym, ap, ◌∙◌}
use mathlib.Core.Logic.{◌⊎◌, inl, inr}
use Prim.Native.Nat.{ℕ}
use mathlib.Core.Bool.{Bool, true, false, not}
use mathlib.Core.Option.{Option, none, some}
use mathlib.Core.List.{List, [], ◌∷◌, ◌++◌, append-nil}
use lib.Dec.{T, eqb, ltb}
use borrow.Author.Tests.{not-true}
use Rattle.volume.specs.Bytes.{Bytes}
use Rattle.model.specs.Layout.{pages_for}
use Rattle.model.specs.Date.{good_date}
use Rattle.model.specs.Sound.{sound}
use Rattle.model.specs.Tree.{Row, is_full, free_number, Node, file_node, directory_node, lookup}
use Rattle.model.specs.Image.{tree_of}
use Rattle.model.specs.Path.{path_of, is_no_path, is_root, names}
use Rattle.model.specs.Walk.{Walked, arrived, missing, blocked, walk, node_named, in_walked, walk_to, arrived_or}
use Rattle.model.specs.Call.{make_file, write, remove_file, Refusal, refusal, refusal_at, Answer, refused, granted}
use Rattle.model.specs.Refusal.{Line, is_missing, is_blocked, stopped_at, is_there, is_directory_node, is_locked_node, refusals, settle}
use Rattle.model.specs.Meaning.{image_lines, is_format, told, answer}
use Rattle.model.specs.MeaningOf
use Rattle.model.specs.RefusalOf
use Rattle.laws.proofs.Lines.{granted_passed, settle_append, settle_refused}
use Rattle.laws.proofs.Passed.{image_passed}
use Rattle.laws.proofs.Steps.{image_skip, as_tree_lem}
use Rattle.link_list.specs.declared.Row.{Row as Link}
use Rattle.link_list.specs.Coding.{file_of}
use Rattle.link_list.specs.Judging.{bad_row}
use Rattle.link_list.specs.Links.{write_links, links_name, links_path, node_in, is_directory_there, is_locked_there, old_lines, link_answer, link_after, run_after}
use Rattle.link_list.proofs.Rows.{holds}
use Rattle.link_list.proofs.Writing.{links_key, links_named}
use Rattle.link_old.specs.Before.{old_settled}
use Rattle.link_anew.specs.Anew.{replacing, is_taken, taken, anew, run_answer, if_granted, run_whole}
use Rattle.link_anew.proofs.InTurn.{turn_refused}
use Rattle.link_writes.specs.Writing.{StandsFor}
use Rattle.link_writes.proofs.Written.{old_refused, all_written}

module _ (d date v b : Bytes) (is_path : T (not (is_no_path (path_of d)))) where
  abbrev path : Bytes
  path = links_path d

  -- the calls in turn are refused as what stands before the rows, or that passes and there is an old file if the make says so
  abbrev Tells : Type 0
  Tells = ((f : Refusal) × (refused f ≡ old_settled d date b) × (refused f ≡ run_answer (anew path date v b) b)) ⊎ (granted (taken path date b) ≡ old_settled d date b)

  -- ---- which call is the first

  make_first : (f : Refusal) → answer (make_file path date) b ≡ refused f → eqb f.number 8 ≡ false → refused f ≡ run_answer (anew path date v b) b
  unfolding is_taken replacing
  make_first f e n =
      turn_refused (make_file path date) (write path 0 v ∷ []) b f (sym e)
      ∙ ap (λ (old : Bool). run_answer (replacing path date old v) b) (sym (ap is_taken e ∙ n))

  removal_first : (f : Refusal) → answer (make_file path date) b ≡ refused (refusal 8) → answer (remove_file path) b ≡ refused f → refused f ≡ run_answer (anew path date v b) b
  unfolding is_taken replacing
  removal_first f e r =
      turn_refused (remove_file path) (make_file path date ∷ write path 0 v ∷ []) b f (sym r)
      ∙ ap (λ (old : Bool). run_answer (replacing path date old v) b) (sym (ap is_taken e))

  -- ---- an image that is refused

  module _ (f : Refusal) (e : ◌≡◌ {A = Answer (Unit {0})} (settle (image_lines b) refused (granted tt)) (refused f)) where
    above : {A : Type 0} (ls : List Line) (g : Refusal → A) (x : A) → settle (image_lines b ++ ls) g x ≡ g f
    above ls g x = settle_append g (image_lines b) ls x ∙ settle_refused (image_lines b) tt f g (settle ls g x) e

    image_first : (old : Bool) → refused f ≡ run_answer (replacing path date old v) b
    unfolding replacing MeaningOf.answer MeaningOf.lines is_format
    image_first true = turn_refused (remove_file path) (make_file path date ∷ write path 0 v ∷ []) b f (sym (above (refusals (remove_file path) (tree_of b)) refused (granted (told (remove_file path) (tree_of b)))))
    image_first false = turn_refused (make_file path date) (write path 0 v ∷ []) b f (sym (above (refusals (make_file path date) (tree_of b)) refused (granted (told (make_file path date) (tree_of b)))))

    image_told : refused f ≡ old_settled d date b
    unfolding old_settled
    image_told = sym (above (old_lines d date (tree_of b)) refused (granted (is_there (node_in d links_name (tree_of b)))))

  -- ---- one that is sound

  module _ (h : T (sound b)) where
    no_path_lem : is_no_path (path_of d) ≡ false
    no_path_lem = not-true (is_no_path (path_of d)) (holds (not (is_no_path (path_of d))) is_path)

    before : settle (old_lines d date (tree_of b)) refused (granted (is_there (node_in d links_name (tree_of b)))) ≡ old_settled d date b
    unfolding old_settled
    before = sym (image_skip b h refused (granted (is_there (node_in d links_name (tree_of b)))) (old_lines d date (tree_of b)))

    undated : good_date date ≡ false → Tells
    unfolding MeaningOf.tree_answer RefusalOf.refusals RefusalOf.earlier RefusalOf.make_lines old_lines settle is_no_path
    undated e =
        let made : answer (make_file path date) b ≡ refused (refusal 11) = (as_tree_lem (make_file path date) b h).answered ∙ rw ((links_named d is_path).1, e) refl in
        let old : refused (refusal 11) ≡ old_settled d date b = rw (no_path_lem, e) refl ∙ before in
        inl (refusal 11, old, make_first (refusal 11) made refl)

    missed : good_date date ≡ true → (i : ℕ) → walk (names (path_of d)) (tree_of b).root ≡ missing i → Tells
    unfolding MeaningOf.tree_answer RefusalOf.refusals RefusalOf.earlier RefusalOf.make_lines old_lines settle is_no_path is_missing stopped_at
    missed g i e =
        let made : answer (make_file path date) b ≡ refused (refusal_at 5 i) = (as_tree_lem (make_file path date) b h).answered ∙ rw ((links_named d is_path).1, g, e) refl in
        let old : refused (refusal_at 5 i) ≡ old_settled d date b = rw (no_path_lem, g, e) refl ∙ before in
        inl (refusal_at 5 i, old, make_first (refusal_at 5 i) made refl)

    stopped : good_date date ≡ true → (i : ℕ) → walk (names (path_of d)) (tree_of b).root ≡ blocked i → Tells
    unfolding MeaningOf.tree_answer RefusalOf.refusals RefusalOf.earlier RefusalOf.make_lines old_lines settle is_no_path is_missing is_blocked stopped_at
    stopped g i e =
        let made : answer (make_file path date) b ≡ refused (refusal_at 6 i) = (as_tree_lem (make_file path date) b h).answered ∙ rw ((links_named d is_path).1, g, e) refl in
        let old : refused (refusal_at 6 i) ≡ old_settled d date b = rw (no_path_lem, g, e) refl ∙ before in
        inl (refusal_at 6 i, old, make_first (refusal_at 6 i) made refl)

    module _ (g : good_date date ≡ true) (s : Row) (e : walk (names (path_of d)) (tree_of b).root ≡ arrived s) where
      absent : lookup links_key s ≡ none → Tells
      unfolding MeaningOf.tree_answer RefusalOf.refusals RefusalOf.earlier RefusalOf.later RefusalOf.wanted RefusalOf.make_lines old_lines settle is_no_path is_root is_missing is_blocked arrived_or is_there is_directory_there is_locked_there is_taken
      absent l =
          let room : (full short : Bool) → is_taken {A = Unit {0}} (settle ((full, refusal 9) ∷ (short, refusal 10) ∷ []) refused (granted tt)) ≡ false = λ full short. numbers full short in
          let free : taken path date b ≡ false = ap is_taken (as_tree_lem (make_file path date) b h).answered ∙ rw ((links_named d is_path).1, g, e, l) (room (is_full s) (ltb (free_number (tree_of b)) (pages_for 0))) in
          let old : granted false ≡ old_settled d date b = rw (no_path_lem, g, e, l) refl ∙ before in
          inr (ap (λ (z : Bool). granted z) free ∙ old)
        where
          numbers : (full short : Bool) → is_taken {A = Unit {0}} (settle ((full, refusal 9) ∷ (short, refusal 10) ∷ []) refused (granted tt)) ≡ false
          numbers true short = refl
          numbers false true = refl
          numbers false false = refl

      there : (x : Node) → lookup links_key s ≡ some x → answer (make_file path date) b ≡ refused (refusal 8)
      unfolding MeaningOf.tree_answer RefusalOf.refusals RefusalOf.earlier RefusalOf.make_lines settle is_no_path is_root is_missing is_blocked arrived_or is_there
      there x l = (as_tree_lem (make_file path date) b h).answered ∙ rw ((links_named d is_path).1, g, e, l) refl

      present : (x : Node) → lookup links_key s ≡ some x → Tells
      unfolding MeaningOf.tree_answer RefusalOf.refusals RefusalOf.earlier old_lines settle is_no_path is_root walk_to in_walked node_named is_missing is_blocked arrived_or is_there is_directory_there is_locked_there is_directory_node is_locked_node is_taken
      present (directory_node c r) l =
          let removed : answer (remove_file path) b ≡ refused (refusal 7) = (as_tree_lem (remove_file path) b h).answered ∙ rw ((links_named d is_path).1, e, l) refl in
          let old : refused (refusal 7) ≡ old_settled d date b = rw (no_path_lem, g, e, l) refl ∙ before in
          inl (refusal 7, old, removal_first (refusal 7) (there (directory_node c r) l) removed)
      present (file_node true c w) l =
          let removed : answer (remove_file path) b ≡ refused (refusal 25) = (as_tree_lem (remove_file path) b h).answered ∙ rw ((links_named d is_path).1, e, l) refl in
          let old : refused (refusal 25) ≡ old_settled d date b = rw (no_path_lem, g, e, l) refl ∙ before in
          inl (refusal 25, old, removal_first (refusal 25) (there (file_node true c w) l) removed)
      present (file_node false c w) l =
          let old : granted true ≡ old_settled d date b = rw (no_path_lem, g, e, l) refl ∙ before in
          inr (ap (λ (z : Bool). granted z) (ap is_taken (there (file_node false c w) l)) ∙ old)

    sound_tells : Tells
    sound_tells = go (good_date date) refl
      where
        go : (z : Bool) → good_date date ≡ z → Tells
        go false z = undated z
        go true z = to (walk (names (path_of d)) (tree_of b).root) refl
          where
            to : (w : Walked Row) → walk (names (path_of d)) (tree_of b).root ≡ w → Tells
            to (missing i) w = missed z i w
            to (blocked i) w = stopped z i w
            to (arrived s) w = with (lookup links_key s) refl
              where
                with : (o : Option Node) → lookup links_key s ≡ o → Tells
                with none l = absent z s w l
                with (some x) l = present z s w x l

  -- ---- so the calls in turn are the writing

  tells : Tells
  tells = go (settle (image_lines b) refused (granted tt)) refl
    where
      go : (a : Answer (Unit {0})) → ◌≡◌ {A = Answer (Unit {0})} (settle (image_lines b) refused (granted tt)) a → Tells
      go (refused f) e = inl (f, image_told f e, image_first f e (taken path date b))
      go (granted y) e = sound_tells (image_passed b [] (ap (λ (ls : List Line). settle ls some none) (append-nil (image_lines b)) ∙ granted_passed (image_lines b) tt y e)).0

  pub first_written : (rs : List Link) → none ≡ bad_row rs → StandsFor v (file_of rs)
      → (run_answer (anew path date v b) b ≡ link_answer (write_links d date rs) b) × (run_whole (anew path date v b) b ≡ link_after (write_links d date rs) b)
  unfolding run_whole if_granted
  first_written rs good k = go tells
    where
      go : Tells → (run_answer (anew path date v b) b ≡ link_answer (write_links d date rs) b) × (run_whole (anew path date v b) b ≡ link_after (write_links d date rs) b)
      go (inl x) =
          let o = old_refused d date b rs x.0 x.1 in
          (sym x.2 ∙ o.0, ap (λ (a : Answer (Unit {0})). if_granted a b (run_after (anew path date v b) b)) (sym x.2) ∙ o.1)
      go (inr x) = all_written d date b rs (taken path date b) x good v k
