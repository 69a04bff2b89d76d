-- Once the directory, the date and the old file have passed, a writing's removal is granted, its make can be refused by 9 or 10 alone and its write by
-- 10 alone: the name is not there after the removal, and is an empty file's after the make.
use mathlib.Core.Path.{◌≡◌, refl, sym, ap, ◌∙◌, subst}
use mathlib.Core.Logic.{◌≢◌}
use Prim.Native.Nat.{ℕ, suc, ◌+◌}
use mathlib.Core.Bool.{Bool, true, false, not, ◌||◌, true≢false}
use mathlib.Core.Option.{Option, none, some, some-ne-none, none-ne-some}
use mathlib.Core.List.{List, [], ◌∷◌, ◌++◌, append-nil}
use lib.ListN.{length, drop}
use lib.Seq.{drop-nil}
use lib.Dec.{T, eqb, ltb, leb-suc-zero}
use borrow.Author.Tests.{eqb-false, not-true}
use Rattle.volume.specs.Bytes.{Bytes, same, put}
use Rattle.std.specs.Prelude.{if◌then◌else◌}
use Rattle.volume.specs.Lists.{all, any}
use Rattle.volume.proofs.Tests.{not_not, same_refl}
use Rattle.model.specs.Name.{legal_byte, legal_text, padded}
use Rattle.model.specs.Date.{good_date}
use Rattle.model.specs.Tree.{Row, end, free, file, dir, width, held, Tree, free_number, Node, file_node, directory_node, lookup, fill, rewrite, vacate}
use Rattle.model.specs.Image.{tree_of}
use Rattle.model.specs.Sound.{sound}
use Rattle.model.specs.Path.{Name, Path, below, path_of, is_no_path, is_root, names}
use Rattle.model.specs.Walk.{Walked, arrived, missing, blocked, walk, node_named, in_walked, walk_to, arrived_or, change_at}
use Rattle.model.specs.Text.{text}
use Rattle.model.specs.Call.{Call, make_file, write, remove_file, Refusal, refusal}
use Rattle.model.specs.Refusal.{Line, is_missing, is_blocked, is_there, is_directory_node, is_locked_node, content_in, walked, refusals, settle, Passes}
use Rattle.model.specs.Meaning.{in_parent, changed, tree_after}
use Rattle.model.specs.Demands.{replay}
use Rattle.model.specs.DemandsOf
use Rattle.model.specs.MeaningOf
use Rattle.model.specs.RefusalOf
use Rattle.laws.proofs.Lines.{passed, Numbered}
use Rattle.family.proofs.Onward.{OneMore, one_more}
use Rattle.family.proofs.Rows.{walk_changed}
use Rattle.link_list.specs.Links.{links_name, links_path, is_directory_there, is_locked_there, removal, old_lines}
use Rattle.link_list.proofs.Rows.{holds}
use Rattle.link_list.proofs.Vacated.{vacated_gone}

-- ---- what has passed

abbrev pub links_key : Bytes
links_key = padded links_name

pub record Old (d date : Bytes) (t : Tree) : Type 0 where
  pub is_path : T (not (is_no_path (path_of d)))
  pub good : T (good_date date)
  pub row : Row
  pub leads : walk (names (path_of d)) t.root ≡ arrived row
  pub no_directory : T (not (is_directory_there (lookup links_key row)))
  pub unlocked : T (not (is_locked_there (lookup links_key row)))

arrives : (w : Walked Row) → T (not (is_missing w)) → T (not (is_blocked w)) → (s : Row) × (w ≡ arrived s)
unfolding is_missing is_blocked
arrives (arrived s) u v = (s, refl)
arrives (missing i) u v = absurd u
arrives (blocked i) u v = absurd v

pub old_passed : (d date : Bytes) (t : Tree) → Passes (old_lines d date t) → Old d date t
unfolding old_lines arrived_or
old_passed d date t e =
    let p1 = passed _ _ e in
    let p2 = passed _ _ p1.1 in
    let p3 = passed _ _ p2.1 in
    let p4 = passed _ _ p3.1 in
    let p5 = passed _ _ p4.1 in
    let p6 = passed _ _ p5.1 in
    let a = arrives (walk (names (path_of d)) t.root) p3.0 p4.0 in
    record {
      is_path = p1.0;
      good = not_not (good_date date) p2.0;
      row = a.0;
      leads = a.1;
      no_directory = subst (λ (w : Walked Row). T (not (is_directory_there (lookup links_key (arrived_or end w))))) a.1 p5.0;
      unlocked = subst (λ (w : Walked Row). T (not (is_locked_there (lookup links_key (arrived_or end w))))) a.1 p6.0;
    }

pub links_named : (d : Bytes) → T (not (is_no_path (path_of d))) → OneMore (names (path_of d)) links_name (path_of (links_path d))
unfolding legal_text legal_byte all text
links_named d h = one_more d h links_name tt

-- ---- the removal

module _ (p : Bytes) (ns : List Name) (n : Name) (is : path_of p ≡ below ns n) where
  pub removed_file : (t : Tree) (s : Row) (date v : Bytes) → walk ns t.root ≡ arrived s → lookup n.bytes s ≡ some (file_node false date v)
      → Passes (refusals (remove_file p) t) × (tree_after (remove_file p) t ≡ in_parent (below ns n) (vacate n.bytes) t)
  unfolding MeaningOf.tree_after RefusalOf.refusals RefusalOf.earlier RefusalOf.later RefusalOf.wanted settle MeaningOf.changed is_no_path is_root walk_to in_walked node_named is_missing is_blocked arrived_or is_directory_node is_locked_node
  removed_file t s date v e l = rw (is, e, l, leb-suc-zero (free_number t)) (refl, refl)

-- the tree without LINKS in the directory
pub record Cleared (d : Bytes) (t : Tree) : Type 0 where
  pub row : Row
  pub leads : walk (names (path_of d)) t.root ≡ arrived row
  pub absent : lookup links_key row ≡ none

pub cleared : (b : Bytes) → T (sound b) → (d date : Bytes) → Old d date (tree_of b) → Cleared d (replay (removal d (tree_of b)) (tree_of b))
unfolding removal DemandsOf.replay is_there arrived_or is_directory_there is_locked_there is_directory_node is_locked_node in_parent
cleared b h d date o = go (lookup links_key o.row) refl o.no_directory o.unlocked
  where
    go : (x : Option Node) → lookup links_key o.row ≡ x → T (not (is_directory_there x)) → T (not (is_locked_there x)) → Cleared d (replay (removal d (tree_of b)) (tree_of b))
    go none l u v = rw (o.leads, l) (record { row = o.row; leads = o.leads; absent = l })
    go (some (directory_node e r)) l u v = absurd u
    go (some (file_node true e w)) l u v = absurd v
    go (some (file_node false e w)) l u v =
        let m = links_named d o.is_path in
        let r = removed_file (links_path d) (names (path_of d)) (record { begins = m.0; bytes = links_key }) m.1 (tree_of b) o.row e w o.leads l in
        rw (o.leads, l, r.1) (record {
          row = vacate links_key o.row;
          leads = walk_changed (names (path_of d)) (vacate links_key) (tree_of b).root o.row o.leads;
          absent = vacated_gone b h (names (path_of d)) o.row links_key o.leads;
        })

-- ---- the make

-- f of no refusal is given
pub settle_passed : {A : Type 0} (ls : List Line) (f : Refusal → A) (x : A) → Passes ls → settle ls f x ≡ x
unfolding settle
settle_passed [] f x e = refl
settle_passed {A} (l ∷ ls) f x e = go l.0 e (settle_passed ls f x)
  where
    go : (c : Bool) → (if c then some l.1 else settle ls some none) ≡ none → (Passes ls → settle ls f x ≡ x) → (if c then f l.1 else settle ls f x) ≡ x
    go true u next = absurd (some-ne-none l.1 u)
    go false u next = next u

-- a name that is in no entry is in the one that is filled
filled_there : (n date : Bytes) (s : Row) → lookup n s ≡ none → held s ≢ width s → lookup n (fill (file false n date []) s) ≡ some (file_node false date [])
unfolding lookup fill held width
filled_there n date end l h = absurd (h refl)
filled_there n date (free s) l h = rw (holds (same n n) (same_refl n))
filled_there n date (file k m c v s) l h = go (same m n) l (filled_there n date s)
  where
    go : (z : Bool) → (if z then some (file_node k c v) else lookup n s) ≡ none
        → (lookup n s ≡ none → held s ≢ width s → lookup n (fill (file false n date []) s) ≡ some (file_node false date []))
        → (if z then some (file_node k c v) else lookup n (fill (file false n date []) s)) ≡ some (file_node false date [])
    go true u next = absurd (some-ne-none (file_node k c v) u)
    go false u next = next u (λ e. h (ap suc e))
filled_there n date (dir m c r s) l h = go (same m n) l (filled_there n date s)
  where
    go : (z : Bool) → (if z then some (directory_node c r) else lookup n s) ≡ none
        → (lookup n s ≡ none → held s ≢ width s → lookup n (fill (file false n date []) s) ≡ some (file_node false date []))
        → (if z then some (directory_node c r) else lookup n (fill (file false n date []) s)) ≡ some (file_node false date [])
    go true u next = absurd (some-ne-none (directory_node c r) u)
    go false u next = next u (λ e. h (ap suc e))

no_directory_lem : (c date v : Bytes) (r : Row) → some (directory_node c r) ≡ some (file_node false date v) → ⊥
unfolding is_directory_node
no_directory_lem c date v r e = let bad : directory_node c r ≡ file_node false date v = cc e in subst (λ (x : Node). T (is_directory_node x)) bad tt

rewritten_there : (n w date v : Bytes) (s : Row) → lookup n s ≡ some (file_node false date v) → lookup n (rewrite n w s) ≡ some (file_node false date w)
unfolding lookup rewrite
rewritten_there n w date v end l = absurd (none-ne-some (file_node false date v) l)
rewritten_there n w date v (free s) l = rewritten_there n w date v s l
rewritten_there n w date v (file k m c u s) l = go (same m n) refl l (rewritten_there n w date v s)
  where
    go : (z : Bool) → same m n ≡ z → (if z then some (file_node k c u) else lookup n s) ≡ some (file_node false date v)
        → (lookup n s ≡ some (file_node false date v) → lookup n (rewrite n w s) ≡ some (file_node false date w))
        → lookup n (if z then file k m c w s else file k m c u (rewrite n w s)) ≡ some (file_node false date w)
    go true z e next =
        let unlocked : k ≡ false = cc e in
        let dated : c ≡ date = cc e in
        rw z (rw (unlocked, dated))
    go false z e next = rw z (next e)
rewritten_there n w date v (dir m c r s) l = go (same m n) l (rewritten_there n w date v s)
  where
    go : (z : Bool) → (if z then some (directory_node c r) else lookup n s) ≡ some (file_node false date v)
        → (lookup n s ≡ some (file_node false date v) → lookup n (rewrite n w s) ≡ some (file_node false date w))
        → (if z then some (directory_node c r) else lookup n (rewrite n w s)) ≡ some (file_node false date w)
    go true e next = absurd (no_directory_lem c date v r e)
    go false e next = next e

-- 9 and 10 alone
abbrev pub room : List ℕ
room = 9 ∷ 10 ∷ []

-- LINKS in the directory is a file with this date and content, not locked
pub record Stands (d date v : Bytes) (t : Tree) : Type 0 where
  pub row : Row
  pub leads : walk (names (path_of d)) t.root ≡ arrived row
  pub holds_it : lookup links_key row ≡ some (file_node false date v)

module _ (d date : Bytes) (is_path : T (not (is_no_path (path_of d)))) where
  abbrev path : Bytes
  path = links_path d

  named : OneMore (names (path_of d)) links_name (path_of (links_path d))
  named = links_named d is_path

  pub make_numbered : T (good_date date) → (t : Tree) → Cleared d t → Numbered room (refusals (make_file (links_path d) date) t)
  unfolding RefusalOf.refusals RefusalOf.earlier RefusalOf.later RefusalOf.wanted RefusalOf.make_lines is_no_path is_root is_missing is_blocked arrived_or is_there all any
  make_numbered g t c = rw (named.1, c.leads, c.absent, holds (good_date date) g) tt

  pub made_stands : (t : Tree) → Cleared d t → Passes (refusals (make_file (links_path d) date) t) → Stands d date [] (tree_after (make_file (links_path d) date) t)
  unfolding MeaningOf.tree_after MeaningOf.changed in_parent RefusalOf.refusals RefusalOf.earlier RefusalOf.later RefusalOf.make_lines arrived_or
  made_stands t c e =
      let p1 = passed _ _ e in
      let p2 = passed _ _ p1.1 in
      let p3 = passed _ _ p2.1 in
      let p4 = passed _ _ p3.1 in
      let p5 = passed _ _ p4.1 in
      let p6 = passed _ _ p5.1 in
      let entry : T (not (eqb (held c.row) (width c.row))) = rw (named.1, c.leads) at p6.0 in
      let tree : tree_after (make_file (links_path d) date) t ≡ in_parent (below (names (path_of d)) (record { begins = named.0; bytes = links_key })) (fill (file false links_key date [])) t =
      settle_passed (refusals (make_file (links_path d) date) t) (λ f. t) (changed (make_file (links_path d) date) t) e ∙ rw named.1 in
      subst (Stands d date []) (sym tree) (record {
        row = fill (file false links_key date []) c.row;
        leads = walk_changed (names (path_of d)) (fill (file false links_key date [])) t.root c.row c.leads;
        holds_it = filled_there links_key date c.row c.absent (eqb-false (held c.row) (width c.row) (not-true (eqb (held c.row) (width c.row)) (holds (not (eqb (held c.row) (width c.row))) entry)));
      })

  pub write_numbered : (v : Bytes) (t : Tree) → Stands d date [] t → Numbered room (refusals (write (links_path d) 0 v) t)
  unfolding RefusalOf.refusals RefusalOf.earlier RefusalOf.later RefusalOf.wanted is_no_path is_root walk_to in_walked node_named is_missing is_blocked arrived_or is_directory_node is_locked_node content_in all any
  write_numbered v t c = rw (named.1, c.leads, c.holds_it) tt

  pub written_stands : (v : Bytes) (t : Tree) → Stands d date [] t → Passes (refusals (write (links_path d) 0 v) t) → Stands d date v (tree_after (write (links_path d) 0 v) t)
  unfolding MeaningOf.tree_after MeaningOf.changed in_parent walk_to in_walked node_named arrived_or content_in
  written_stands v t c e =
      let at : List Name = names (path_of d) in
      let put_whole : Bytes → Tree = λ w. record { pages = t.pages; code = t.code; root = change_at at (rewrite links_key w) t.root } in
      let put_in : Bytes → Tree = λ w. put_whole (v ++ w) in
      let tree : tree_after (write (links_path d) 0 v) t ≡ in_parent (below (names (path_of d)) (record { begins = named.0; bytes = links_key })) (rewrite links_key v) t =
      settle_passed (refusals (write (links_path d) 0 v) t) (λ f. t) (changed (write (links_path d) 0 v) t) e ∙ rw (named.1, c.leads, c.holds_it) (ap put_in (drop-nil (0 + length v)) ∙ ap put_whole (append-nil v)) in
      subst (Stands d date v) (sym tree) (record {
        row = rewrite links_key v c.row;
        leads = walk_changed (names (path_of d)) (rewrite links_key v) t.root c.row c.leads;
        holds_it = rewritten_there links_key v date [] c.row c.holds_it;
      })
