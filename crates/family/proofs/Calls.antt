-- A call below a directory answers by that directory's row and its arguments, and a call that takes pages by the free number too; what it changes, it
-- changes in that row.
use mathlib.Core.Path.{◌≡◌, refl, sym, ap, ◌∙◌, subst}
use mathlib.Core.Logic.{◌⊎◌, inl, inr}
use Prim.Native.Nat.{◌+◌}
use mathlib.Core.Bool.{not}
use mathlib.Core.List.{List, [], ◌∷◌, ◌++◌, append_assoc}
use lib.Dec.{T, ltb, leb-suc-zero}
use Rattle.volume.specs.Bytes.{Bytes}
use Rattle.model.specs.Tree.{Row, Tree, needs, free_number, lookup}
use Rattle.model.specs.Path.{Name, Path, path_of, is_no_path, parents, names}
use Rattle.model.specs.Walk.{Walked, arrived, walk, node_named, in_walked, walk_to, change_at}
use Rattle.model.specs.Call.{Call, find, list, read, make_file, make_directory, write, remove_file, remove_directory, set_lock, Told, buffer_before, Refusal, refusal, Answer, refused, granted}
use Rattle.model.specs.Refusal.{Line, path_line, refusals, settle, walked_directory}
use Rattle.model.specs.Meaning.{shown, lent_shown, told, filled, in_parent, changed, tree_answer, tree_buffer, tree_after}
use Rattle.model.specs.MeaningOf
use Rattle.model.specs.RefusalOf
use Rattle.laws.proofs.Lines.{settle_holds, settle_both}
use Rattle.family.specs.Family.{Below, Looks, finds, reads, lists, lists_below, Works, looks, makes_file, makes_directory, writes, removes_file, removes_directory, locks}
use Rattle.family.proofs.Onward.{Goes, nowhere, on, goes_on}
use Rattle.family.proofs.Rows.{walk_append, change_append, walk_changed, needs_changed}

-- None of these calls is a store: all that it answers, and its whole buffer, is what the tree says.
abbrev pub AllShown : Call → Type 0
AllShown c = ((a : Answer (Told c)) → shown c a ≡ a) × ((x : Bytes) → lent_shown c x ≡ x)

pub look_shown : (family : Bytes) (c : Call) → Looks family c → AllShown c
look_shown family c (finds path b) = (λ a. refl, λ x. refl)
look_shown family c (reads path at room b) = (λ a. refl, λ x. refl)
look_shown family c (lists i) = (λ a. refl, λ x. refl)
look_shown family c (lists_below path i b) = (λ a. refl, λ x. refl)

pub work_shown : (family : Bytes) (c : Call) → Works family c → AllShown c
work_shown family c (looks d l) = look_shown family d l
work_shown family c (makes_file path date b) = (λ a. refl, λ x. refl)
work_shown family c (makes_directory path date b) = (λ a. refl, λ x. refl)
work_shown family c (writes path at v b) = (λ a. refl, λ x. refl)
work_shown family c (removes_file path b) = (λ a. refl, λ x. refl)
work_shown family c (removes_directory path b) = (λ a. refl, λ x. refl)
work_shown family c (locks locked path b) = (λ a. refl, λ x. refl)

-- two trees in which a path is a directory with the row s
module _ (family : Bytes) (is_path : T (not (is_no_path (path_of family)))) (s : Row) (t u : Tree)
    (et : walked_directory family t ≡ arrived s) (eu : walked_directory family u ≡ arrived s) where
  abbrev xs : List Name
  xs = names (path_of family)

  -- a path below leads to the same in both, by a parent that is below or at the names
  record Same (p : Path) : Type 0 where
    reached : walk_to p t.root ≡ walk_to p u.root
    parent : walk (parents p) t.root ≡ walk (parents p) u.root
    directory : walk (names p) t.root ≡ walk (names p) u.root
    rest : List Name
    begins : parents p ≡ xs ++ rest

  walks_same : (ys : List Name) → walk (xs ++ ys) t.root ≡ walk (xs ++ ys) u.root
  walks_same ys = walk_append xs ys t.root s et ∙ sym (walk_append xs ys u.root s eu)

  same : (p : Path) → Goes xs p → T (is_no_path p) ⊎ Same p
  unfolding is_no_path walk_to
  same p nowhere = inl tt
  same p (on ps n) = inr (record {
    reached = ap (λ (w : Walked Row). in_walked w (λ r. node_named n (lookup n.bytes r))) (walks_same ps);
    parent = walks_same ps;
    directory = rw (append_assoc xs ps (n ∷ [])) (walks_same (ps ++ (n ∷ [])));
    rest = ps;
    begins = refl;
  })

  -- what a call moved: the row at the names, alike in both, and the pages needed by as much
  abbrev pub Moved : Tree → Tree → Type 0
  Moved t' u' = (s' : Row) × (walk xs t'.root ≡ arrived s') × (walk xs u'.root ≡ arrived s')
      × (needs t'.root + needs s ≡ needs t.root + needs s') × (needs u'.root + needs s ≡ needs u.root + needs s')

  stays : Moved t u
  stays = (s, et, eu, refl, refl)

  moves : (ys : List Name) (f : Row → Row) (p : Path) → parents p ≡ xs ++ ys → Moved (in_parent p f t) (in_parent p f u)
  unfolding in_parent
  moves ys f p e =
      let g : Row → Row = change_at ys f in
      let c : (r : Row) → change_at (parents p) f r ≡ change_at xs g r = λ r. ap (λ (ns : List Name). change_at ns f r) e ∙ change_append xs ys f r in (
        g s,
        ap (walk xs) (c t.root) ∙ walk_changed xs g t.root s et,
        ap (walk xs) (c u.root) ∙ walk_changed xs g u.root s eu,
        ap (λ (r : Row). needs r + needs s) (c t.root) ∙ needs_changed xs g t.root s et,
        ap (λ (r : Row). needs r + needs s) (c u.root) ∙ needs_changed xs g u.root s eu,
      )

  pub record Agrees (c : Call) : Type 0 where
    pub answered : tree_answer c t ≡ tree_answer c u
    pub lent : tree_buffer c t ≡ tree_buffer c u
    pub moved : Moved (tree_after c t) (tree_after c u)

  -- by the same lines
  agrees : (c : Call) → refusals c t ≡ refusals c u → told c t ≡ told c u → filled c t ≡ filled c u → Moved (changed c t) (changed c u) → Agrees c
  unfolding MeaningOf.tree_answer MeaningOf.tree_buffer MeaningOf.tree_after
  agrees c e₁ e₂ e₃ m = record {
    answered = λ i. settle (e₁ i) refused (granted (e₂ i));
    lent = λ i. settle (e₁ i) (λ f. lent_shown c (buffer_before c)) (e₃ i);
    moved = subst (λ (ls : List Line). Moved (settle (refusals c t) (λ f. t) (changed c t)) (settle ls (λ f. u) (changed c u))) e₁
        (settle_both Moved (refusals c t) (λ f. t) (changed c t) (λ f. u) (changed c u) (λ f. stays) (λ e. m));
  }

  -- by line 4
  no_path_lem : (c : Call) (path : Bytes) (ls ms : List Line) → T (is_no_path (path_of path)) → refusals c t ≡ path_line path ∷ ls → refusals c u ≡ path_line path ∷ ms → Agrees c
  unfolding MeaningOf.tree_answer MeaningOf.tree_buffer MeaningOf.tree_after
  no_path_lem c path ls ms h e₁ e₂ = record {
    answered = stopped refused (granted (told c t)) (granted (told c u));
    lent = stopped (λ f. lent_shown c (buffer_before c)) (filled c t) (filled c u);
    moved = subst (Moved (tree_after c t)) (sym (stop u e₂ (λ f. u) (changed c u))) (subst (λ (x : Tree). Moved x u) (sym (stop t e₁ (λ f. t) (changed c t))) stays);
  }
    where
      stop : (v : Tree) {rest : List Line} → refusals c v ≡ path_line path ∷ rest → {A : Type 0} (f : Refusal → A) (x : A) → settle (refusals c v) f x ≡ f (refusal 4)
      stop v {rest} e f x = ap (λ (l : List Line). settle l f x) e ∙ settle_holds f (is_no_path (path_of path)) (refusal 4) rest x h

      stopped : {A : Type 0} (f : Refusal → A) (x y : A) → settle (refusals c t) f x ≡ settle (refusals c u) f y
      stopped f x y = stop t e₁ f x ∙ sym (stop u e₂ f y)

  below_same : (path : Bytes) → Below family path → T (is_no_path (path_of path)) ⊎ Same (path_of path)
  below_same path b = same (path_of path) (subst (λ (p : Bytes). Goes xs (path_of p)) (sym b.2) (goes_on family is_path b.0 b.1))

  -- a call that takes no pages is not refused for want of them
  none_wanted : ltb (free_number t) 0 ≡ ltb (free_number u) 0
  none_wanted = leb-suc-zero (free_number t) ∙ sym (leb-suc-zero (free_number u))

  pub look : (c : Call) → Looks family c → Agrees c
  unfolding RefusalOf.refusals RefusalOf.earlier RefusalOf.later RefusalOf.wanted MeaningOf.told MeaningOf.filled MeaningOf.changed
  look c (finds path b) = elim (below_same path b) [
    | inl k ↦ no_path_lem (find path) path _ _ k refl refl
    | inr k ↦ agrees (find path) (rw k.reached (rw none_wanted refl)) (rw k.reached refl) refl stays
  ]
  look c (reads path at room b) = elim (below_same path b) [
    | inl k ↦ no_path_lem (read path at room) path _ _ k refl refl
    | inr k ↦ agrees (read path at room) (rw k.reached (rw none_wanted refl)) (rw k.reached refl) (rw k.reached refl) stays
  ]
  look c (lists i) = agrees (list family i) (rw et (rw eu (rw none_wanted refl))) (rw et (rw eu refl)) refl stays
  look c (lists_below path i b) = elim (below_same path b) [
    | inl k ↦ no_path_lem (list path i) path _ _ k refl refl
    | inr k ↦ agrees (list path i) (rw k.directory (rw none_wanted refl)) (rw k.directory refl) refl stays
  ]

  pub work : free_number t ≡ free_number u → (c : Call) → Works family c → Agrees c
  unfolding RefusalOf.refusals RefusalOf.earlier RefusalOf.later RefusalOf.wanted RefusalOf.make_lines MeaningOf.told MeaningOf.filled MeaningOf.changed
  work w c (looks d l) = look d l
  work w c (makes_file path date b) = elim (below_same path b) [
    | inl k ↦ no_path_lem (make_file path date) path _ _ k refl refl
    | inr k ↦ agrees (make_file path date) (rw k.parent (rw w refl)) refl refl (moves k.rest _ (path_of path) k.begins)
  ]
  work w c (makes_directory path date b) = elim (below_same path b) [
    | inl k ↦ no_path_lem (make_directory path date) path _ _ k refl refl
    | inr k ↦ agrees (make_directory path date) (rw k.parent (rw w refl)) refl refl (moves k.rest _ (path_of path) k.begins)
  ]
  work w c (writes path at v b) = elim (below_same path b) [
    | inl k ↦ no_path_lem (write path at v) path _ _ k refl refl
    | inr k ↦ agrees (write path at v) (rw k.reached (rw w refl)) refl refl (rw k.reached (moves k.rest _ (path_of path) k.begins))
  ]
  work w c (removes_file path b) = elim (below_same path b) [
    | inl k ↦ no_path_lem (remove_file path) path _ _ k refl refl
    | inr k ↦ agrees (remove_file path) (rw k.reached (rw none_wanted refl)) refl refl (moves k.rest _ (path_of path) k.begins)
  ]
  work w c (removes_directory path b) = elim (below_same path b) [
    | inl k ↦ no_path_lem (remove_directory path) path _ _ k refl refl
    | inr k ↦ agrees (remove_directory path) (rw k.directory (rw none_wanted refl)) refl refl (moves k.rest _ (path_of path) k.begins)
  ]
  work w c (locks locked path b) = elim (below_same path b) [
    | inl k ↦ no_path_lem (set_lock locked path) path _ _ k refl refl
    | inr k ↦ agrees (set_lock locked path) (rw k.reached (rw none_wanted refl)) refl refl (moves k.rest _ (path_of path) k.begins)
  ]
