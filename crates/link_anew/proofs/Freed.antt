-- A file that is removed leaves an empty entry and a page more that is free, so that one can be made anew where it was.
use mathlib.Core.Path.{◌≡◌, refl, sym, ap, ◌∙◌, subst}
use Prim.Native.Nat.{◌+◌, ◌≤◌, ◌<◌}
use native.Mathlib.Omega.{arith}
use mathlib.Core.Bool.{Bool, true, false, true≢false}
use mathlib.Core.Option.{Option, none, some, none-ne-some}
use mathlib.Core.List.{List}
use lib.ListN.{length}
use lib.Dec.{T}
use borrow.Author.Tests.{ne_eqb}
use Rattle.volume.specs.Bytes.{Bytes, same}
use Rattle.std.specs.Prelude.{if◌then◌else◌}
use Rattle.model.specs.Layout.{pages_for}
use Rattle.model.specs.Date.{good_date}
use Rattle.model.specs.Sound.{sound}
use Rattle.model.specs.Tree.{Row, end, free, file, dir, width, held, needs, needs_of, Tree, free_number, free_number_of, Node, file_node, directory_node, lookup, vacate}
use Rattle.model.specs.Image.{tree_of, tree_in}
use Rattle.model.specs.Path.{Name, Path, no_path, root, below, path_of, is_no_path, is_root}
use Rattle.model.specs.Walk.{Walked, arrived, missing, blocked, walk, walk_to, in_walked, node_named, arrived_or}
use Rattle.model.specs.Call.{Call, make_file, remove_file, refusal, refused, granted}
use Rattle.model.specs.Refusal.{is_missing, is_blocked, is_there, is_directory_node, is_locked_node, make_lines, refusals, settle, Passes}
use Rattle.model.specs.Meaning.{in_parent, is_format, lines, answer, after}
use Rattle.model.specs.MeaningOf
use Rattle.model.specs.RefusalOf
use Rattle.laws.proofs.Facts.{sound_facts_lem}
use Rattle.laws.proofs.Counting.{free_sum}
use Rattle.laws.proofs.Lines.{passed, granted_passed}
use Rattle.laws.proofs.Passed.{sound_passed}
use Rattle.laws.proofs.Steps.{as_tree_lem}
use Rattle.family.proofs.Rows.{walk_changed, needs_changed}
use Rattle.link_list.proofs.Vacated.{vacated_gone}
use Rattle.link_list.proofs.Writing.{removed_file}
use Rattle.link_anew.specs.Anew.{is_taken, taken}

-- ---- pages and entries of a row

vacated_needs : (n : Bytes) (s : Row) (x : Node) → lookup n s ≡ some x → needs (vacate n s) < needs s
unfolding lookup vacate needs_of pages_for
vacated_needs n end x e = absurd (none-ne-some x e)
vacated_needs n (free s) x e = vacated_needs n s x e
vacated_needs n (file l m d v s) x e = go (same m n) e (vacated_needs n s x)
  where
    go : (z : Bool) → (if z then some (file_node l d v) else lookup n s) ≡ some x → (lookup n s ≡ some x → needs (vacate n s) < needs s)
        → needs (if z then free s else file l m d v (vacate n s)) < pages_for (length v) + needs s
    go true u next = omega arith
    go false u next = let h = next u in omega arith
vacated_needs n (dir m d r s) x e = go (same m n) e (vacated_needs n s x)
  where
    go : (z : Bool) → (if z then some (directory_node d r) else lookup n s) ≡ some x → (lookup n s ≡ some x → needs (vacate n s) < needs s)
        → needs (if z then free s else dir m d r (vacate n s)) < 1 + needs r + needs s
    go true u next = omega arith
    go false u next = let h = next u in omega arith

held_width : (s : Row) → held s ≤ width s
unfolding held width
held_width end = omega arith
held_width (free r) = let h = held_width r in omega arith
held_width (file l n d v r) = let h = held_width r in omega arith
held_width (dir n d s r) = let h = held_width r in omega arith

vacated_room : (n : Bytes) (s : Row) (x : Node) → lookup n s ≡ some x → held (vacate n s) < width (vacate n s)
unfolding lookup vacate held width
vacated_room n end x e = absurd (none-ne-some x e)
vacated_room n (free s) x e = let h = vacated_room n s x e in omega arith
vacated_room n (file l m d v s) x e = go (same m n) e (vacated_room n s x)
  where
    go : (z : Bool) → (if z then some (file_node l d v) else lookup n s) ≡ some x → (lookup n s ≡ some x → held (vacate n s) < width (vacate n s))
        → held (if z then free s else file l m d v (vacate n s)) < width (if z then free s else file l m d v (vacate n s))
    go true u next = let h = held_width s in omega arith
    go false u next = let h = next u in omega arith
vacated_room n (dir m d r s) x e = go (same m n) e (vacated_room n s x)
  where
    go : (z : Bool) → (if z then some (directory_node d r) else lookup n s) ≡ some x → (lookup n s ≡ some x → held (vacate n s) < width (vacate n s))
        → held (if z then free s else dir m d r (vacate n s)) < width (if z then free s else dir m d r (vacate n s))
    go true u next = let h = held_width s in omega arith
    go false u next = let h = next u in omega arith

-- ---- where the file was

pub record Removed (path : Bytes) (t : Tree) : Type 0 where
  pub ns : List Name
  pub n : Name
  pub is : path_of path ≡ below ns n
  pub row : Row
  pub leads : walk ns t.root ≡ arrived row
  pub date : Bytes
  pub content : Bytes
  pub was : lookup n.bytes row ≡ some (file_node false date content)

removed : (path : Bytes) (t : Tree) → Passes (refusals (remove_file path) t) → Removed path t
unfolding RefusalOf.refusals RefusalOf.earlier RefusalOf.later RefusalOf.wanted is_no_path is_root walk_to in_walked node_named is_missing is_blocked arrived_or is_directory_node is_locked_node
removed path t e = go (path_of path) refl
  where
    go : (q : Path) → path_of path ≡ q → Removed path t
    go no_path is = absurd (rw is at (passed _ _ e).0)
    go root is = absurd (rw is at (passed _ _ (passed _ _ e).1).0)
    go (below ns n) is = to (walk ns t.root) refl
      where
        to : (w : Walked Row) → walk ns t.root ≡ w → Removed path t
        to (missing i) w = absurd (rw (is, w) at (passed _ _ (passed _ _ (passed _ _ e).1).1).0)
        to (blocked i) w = absurd (rw (is, w) at (passed _ _ (passed _ _ (passed _ _ (passed _ _ e).1).1).1).0)
        to (arrived s) w = with (lookup n.bytes s) refl
          where
            with : (o : Option Node) → lookup n.bytes s ≡ o → Removed path t
            with none l = absurd (rw (is, w, l) at (passed _ _ (passed _ _ (passed _ _ e).1).1).0)
            with (some (directory_node c r)) l = absurd (rw (is, w, l) at (passed _ _ (passed _ _ (passed _ _ (passed _ _ (passed _ _ e).1).1).1).1).0)
            with (some (file_node true c v)) l = absurd (rw (is, w, l) at (passed _ _ (passed _ _ (passed _ _ (passed _ _ (passed _ _ (passed _ _ e).1).1).1).1).1).0)
            with (some (file_node false c v)) l = record { ns = ns; n = n; is = is; row = s; leads = w; date = c; content = v; was = l }

-- ---- one made anew there

module _ (path date b : Bytes) (h : T (sound b)) (r : Removed path (tree_of b)) where
  abbrev bare : Tree
  bare = in_parent (below r.ns r.n) (vacate r.n.bytes) (tree_of b)

  undated : good_date date ≡ false → answer (make_file path date) b ≡ refused (refusal 11)
  unfolding MeaningOf.tree_answer RefusalOf.refusals RefusalOf.earlier RefusalOf.make_lines settle is_no_path
  undated e = (as_tree_lem (make_file path date) b h).answered ∙ rw (r.is, e) refl

  -- 8 stands below 11
  dated : taken path date b ≡ true → good_date date ≡ true
  unfolding is_taken
  dated old = go (good_date date) refl
    where
      go : (z : Bool) → good_date date ≡ z → good_date date ≡ true
      go true z = z
      go false z = absurd (true≢false (sym old ∙ ap is_taken (undated z)))

  bare_makes : good_date date ≡ true → Passes (make_lines path date bare)
  unfolding RefusalOf.make_lines settle in_parent is_no_path is_root is_missing is_blocked arrived_or is_there
  bare_makes good =
      let room = vacated_room r.n.bytes r.row _ r.was in
      rw (
        r.is,
        walk_changed r.ns (vacate r.n.bytes) (tree_of b).root r.row r.leads,
        vacated_gone b h r.ns r.row r.n.bytes r.leads,
        good,
        ne_eqb (held (vacate r.n.bytes r.row)) (width (vacate r.n.bytes r.row)) (λ q. omega (arith, room, q)),
      ) refl

  bare_frees : free_number (tree_of b) < free_number bare
  unfolding free_number_of in_parent tree_in
  bare_frees =
      let k = needs_changed r.ns (vacate r.n.bytes) (tree_of b).root r.row r.leads in
      let v = vacated_needs r.n.bytes r.row _ r.was in
      omega (arith, k, v, free_sum (sound_facts_lem h))

-- after a granted removal of what a make says is there, a make is refused for want of pages alone, and a page more is free
pub record Remade (path date b : Bytes) : Type 0 where
  pub making : Passes (make_lines path date (tree_of (after (remove_file path) b)))
  pub frees : free_number (tree_of b) < free_number (tree_of (after (remove_file path) b))

pub remade : (path date b : Bytes) → T (sound b) → taken path date b ≡ true → (y : Unit {0}) → answer (remove_file path) b ≡ granted y → Remade path date b
unfolding MeaningOf.answer is_format
remade path date b h old y e =
    let c : Call = remove_file path in
    let r = removed path (tree_of b) (sound_passed c b tt (granted_passed (lines c b) _ y e)).1 in
    let means = (as_tree_lem c b h).means ∙ (removed_file path r.ns r.n r.is (tree_of b) r.row r.date r.content r.leads r.was).1 in
    record {
      making = subst (λ (t : Tree). Passes (make_lines path date t)) (sym means) (bare_makes path date b h r (dated path date b h r old));
      frees = subst (λ (t : Tree). free_number (tree_of b) < free_number t) (sym means) (bare_frees path date b h r);
    }
