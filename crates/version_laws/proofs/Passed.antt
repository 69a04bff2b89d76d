-- What a granted call of a version has passed: none of its lines holds, so its path leads where the call works, a new name is legal and not there, and there
-- are pages enough. All of it is said of the tree.
use mathlib.Core.Path.{◌≡◌, refl, sym, ◌∙◌, subst}
use Prim.Native.Nat.{ℕ, suc, ◌+◌, ◌-◌, ◌≤◌, max}
use native.Mathlib.Omega.{arith}
use mathlib.Core.Bool.{Bool, true, false, not, ◌&&◌, ◌||◌}
use mathlib.Core.List.{List, [], ◌∷◌, ◌++◌}
use lib.ListN.{length}
use lib.Dec.{T, ltb, nltb→le}
use Rattle.volume.specs.Bytes.{Bytes}
use Rattle.std.specs.Prelude.{if◌then◌else◌}
use Rattle.volume.proofs.Tests.{not_not, if_no}
use Rattle.model.specs.Name.{legal_name}
use Rattle.model.specs.Date.{good_date}
use Rattle.model.specs.Tree.{Row, end, Tree, held, is_full, Node, file_node, directory_node, lookup}
use Rattle.model.specs.Path.{Name, Path, no_path, root, below, path_of, is_no_path, is_root, parents, names, last_name}
use Rattle.model.specs.Walk.{Walked, arrived, missing, blocked, walk, walk_to, arrived_or}
use Rattle.model.specs.Call.{write, remove_file, remove_directory, set_lock, Refusal}
use Rattle.model.specs.Version.{Version, Calls}
use Rattle.model.specs.RefusalOf.{Line, is_missing, is_blocked, is_there, is_directory_node, row_in, node, size, parent_row, Passes, full_lines, buffer_lines, numbers_for, free_in, make_wants, wanted, make_lines, earlier, later, refusals}
use Rattle.model.specs.MeaningOf.{sound, tree_of, sound_line, header_lines, image_lines, is_format, lines}
use Rattle.view_laws.proofs.Walks.{last_entered}
use Rattle.version_laws.proofs.Lines.{passed, passes_left, passes_right}
use Rattle.version_laws.proofs.Names.{last_legal, date_length}

last_name_lem : (p : Path) → T (not (is_no_path p)) → T (not (is_root p)) → (ns : List Name) × (n : Name) × (p ≡ below ns n)
unfolding is_no_path is_root
last_name_lem no_path h k = absurd h
last_name_lem root h k = absurd k
last_name_lem (below ns n) h k = (ns, n, refl)

neither : (c d : Bool) → T (not (c || d)) → T (not c) × T (not d)
neither true d h = absurd h
neither false d h = (tt, h)

not_root : (p : Path) (r : Row) → T (not (is_directory_node (arrived_or (directory_node [] end) (walk_to p r)))) → T (not (is_root p))
unfolding is_directory_node arrived_or walk_to is_root
not_root no_path r h = tt
not_root root r h = h
not_root (below ns n) r h = tt

arrives : {A : Type 0} (d : A) (x : Walked A) → T (not (is_missing x)) → T (not (is_blocked x)) → x ≡ arrived (arrived_or d x)
unfolding is_missing is_blocked arrived_or
arrives d (arrived x) u v = refl
arrives d (missing i) u v = absurd u
arrives d (blocked i) u v = absurd v

-- a file holds no entries
file_empty : (x : Node) → T (not (is_directory_node x)) → held (row_in x) ≤ 0
unfolding is_directory_node row_in held
file_empty (file_node l d v) h = omega arith
file_empty (directory_node d r) h = absurd h

-- where a path below the root leads in a tree
pub record Leads (t : Tree) (path : Bytes) : Type 0 where
  pub ns : List Name
  pub n : Name
  pub is : path_of path ≡ below ns n
  pub reached : T (not (is_missing (walk_to (below ns n) t.root)))
  pub entered : T (not (is_blocked (walk_to (below ns n) t.root)))

module _ (w : Version) where
  pub image_passed : (b : Bytes) (ls : List Line) → Passes (image_lines w b ++ ls) → T (sound w b) × Passes ls
  image_passed b ls e = go (header_lines w b) (passed _ _ e).1
    where
      go : (hs : List Line) → Passes ((hs ++ (sound_line w b ∷ [])) ++ ls) → T (sound w b) × Passes ls
      go [] p = let q = passed (sound_line w b) ls p in (not_not (sound w b) q.0, q.1)
      go (h ∷ hs) p = go hs (passed h _ p).1

  pub sound_passed : (c : Calls w) (b : Bytes) → T (not (is_format c)) → Passes (lines w c b) → T (sound w b) × Passes (refusals w c (tree_of w b))
  unfolding lines
  sound_passed c b h e =
      let p1 = passed _ _ (passes_right (buffer_lines c) _ e) in
      let p2 = subst Passes (if_no (is_format c) _ _ h) p1.1 in
      let p3 = passed _ _ (passes_right (header_lines w b) _ p2) in
      (not_not (sound w b) p3.0, p3.1)

  -- ---- the calls that change an image: what their lines say, where the path leads to a last name

  -- what the lines of a granted make say, of k pages beside those of a directory that grows
  pub record Clear (t : Tree) (ns : List Name) (n : Name) (date : Bytes) (k : ℕ) : Type 0 where
    pub reached : T (not (is_missing (walk ns t.root)))
    pub entered : T (not (is_blocked (walk ns t.root)))
    pub new : (r : Row) → walk ns t.root ≡ arrived r → T (not (is_there (lookup n.bytes r)))
    pub room : (r : Row) → walk ns t.root ≡ arrived r → Passes (full_lines (numbers_for w t) r)
    pub legal : T (legal_name n.bytes)
    pub long : length n.bytes ≡ 16
    pub dated : length date ≡ 8
    pub space : (r : Row) → walk ns t.root ≡ arrived r → (if (numbers_for w t).grows && is_full r then suc k else k) ≤ free_in w t

  pub record Makes (t : Tree) (path date : Bytes) (k : ℕ) : Type 0 where
    pub ns : List Name
    pub n : Name
    pub is : path_of path ≡ below ns n
    pub good : T (good_date date)
    pub clear : Clear t ns n date k

  pub record Writes (t : Tree) (path : Bytes) (from : ℕ) (v : Bytes) : Type 0 where
    pub at : Leads t path
    pub leads : walk_to (below at.ns at.n) t.root ≡ arrived (node path t)
    pub is_file : T (not (is_directory_node (node path t)))
    pub begins : from ≤ size path t
    pub space : (numbers_for w t).pages_for (max (size path t) (from + length v)) - (numbers_for w t).pages_for (size path t) ≤ free_in w t

  module _ {t : Tree} where
    pub make_passed : {path date : Bytes} {k : ℕ} (r : Refusal) → Passes (make_lines w path date t ++ ((ltb (free_in w t) (make_wants w path k t), r) ∷ [])) → Makes t path date k
    unfolding make_lines arrived_or
    make_passed {path} {date} {k} r e =
        let p1 = passed _ _ e in
        let p2 = passed _ _ p1.1 in
        let p3 = passed _ _ p2.1 in
        let p4 = passed _ _ p3.1 in
        let p5 = passed _ _ p4.1 in
        let p6 = passes_left (full_lines (numbers_for w t) (parent_row path t)) _ p5.1 in
        let p7 = passed _ _ (passes_right (full_lines (numbers_for w t) (parent_row path t)) _ p5.1) in
        let o = neither (is_root (path_of path)) _ p5.0 in
        let l = last_name_lem (path_of path) p1.0 o.0 in
        let top : Row = t.root in
        let good = not_not (good_date date) p2.0 in
        let name = last_legal path l.0 l.1 l.2 in
        record {
          ns = l.0;
          n = l.1;
          is = l.2;
          good = good;
          clear = record {
            reached = subst (λ (p : Path). T (not (is_missing (walk (parents p) top)))) l.2 p3.0;
            entered = subst (λ (p : Path). T (not (is_blocked (walk (parents p) top)))) l.2 p4.0;
            new = λ s a. subst (λ (v : Walked Row). T (not (is_there (lookup l.1.bytes (arrived_or end v))))) a
                (subst (λ (p : Path). T (not (is_there (lookup (last_name p) (arrived_or end (walk (parents p) top)))))) l.2 o.1);
            room = λ s a. subst (λ (v : Walked Row). Passes (full_lines (numbers_for w t) (arrived_or end v))) a
                (subst (λ (p : Path). Passes (full_lines (numbers_for w t) (arrived_or end (walk (parents p) top)))) l.2 p6);
            legal = name.0;
            long = name.1;
            dated = date_length date good;
            space = λ s a. subst (λ (v : Walked Row). (if (numbers_for w t).grows && is_full (arrived_or end v) then suc k else k) ≤ free_in w t) a
                (subst (λ (p : Path). (if (numbers_for w t).grows && is_full (arrived_or end (walk (parents p) top)) then suc k else k) ≤ free_in w t) l.2
                (nltb→le (free_in w t) (make_wants w path k t) p7.0));
          };
        }

    pub write_passed : {path : Bytes} {from : ℕ} (v : Bytes) → Passes (refusals w (write path from v) t) → Writes t path from v
    unfolding refusals earlier later wanted
    write_passed {path} {from} v e =
        let p1 = passed _ _ e in
        let p2 = passed _ _ p1.1 in
        let p3 = passed _ _ p2.1 in
        let p4 = passed _ _ p3.1 in
        let p5 = passed _ _ p4.1 in
        let p6 = passed _ _ p5.1 in
        let p7 = passed _ _ p6.1 in
        let top : Row = t.root in
        let l = last_name_lem (path_of path) p1.0 (not_root (path_of path) top p4.0) in
        record {
          at = record {
            ns = l.0;
            n = l.1;
            is = l.2;
            reached = subst (λ (p : Path). T (not (is_missing (walk_to p top)))) l.2 p2.0;
            entered = subst (λ (p : Path). T (not (is_blocked (walk_to p top)))) l.2 p3.0;
          };
          leads = subst (λ (p : Path). walk_to p top ≡ arrived (node path t)) l.2 (arrives (directory_node [] end) (walk_to (path_of path) top) p2.0 p3.0);
          is_file = p4.0;
          begins = nltb→le (size path t) from p6.0;
          space = nltb→le (free_in w t) (wanted w (write path from v) t) p7.0;
        }

    -- what a removal takes away holds nothing
    pub remove_file_passed : {path : Bytes} → Passes (refusals w (remove_file path) t)
        → (l : Leads t path) × ((x : Node) → walk_to (below l.ns l.n) t.root ≡ arrived x → held (row_in x) ≤ 0)
    unfolding refusals earlier later arrived_or
    remove_file_passed {path} e =
        let p1 = passed _ _ e in
        let p2 = passed _ _ p1.1 in
        let p3 = passed _ _ p2.1 in
        let p4 = passed _ _ p3.1 in
        let p5 = passed _ _ p4.1 in
        let top : Row = t.root in
        let l = last_name_lem (path_of path) p1.0 p2.0 in (
          record {
            ns = l.0;
            n = l.1;
            is = l.2;
            reached = subst (λ (p : Path). T (not (is_missing (walk_to p top)))) l.2 p3.0;
            entered = subst (λ (p : Path). T (not (is_blocked (walk_to p top)))) l.2 p4.0;
          },
          λ x a. file_empty x
              (subst (λ (y : Walked Node). T (not (is_directory_node (arrived_or (directory_node [] end) y)))) a
              (subst (λ (p : Path). T (not (is_directory_node (arrived_or (directory_node [] end) (walk_to p top))))) l.2 p5.0)),
        )

    pub remove_directory_passed : {path : Bytes} → Passes (refusals w (remove_directory path) t)
        → (l : Leads t path) × ((x : Node) → walk_to (below l.ns l.n) t.root ≡ arrived x → held (row_in x) ≤ 0)
    unfolding refusals earlier later is_missing is_blocked row_in
    remove_directory_passed {path} e =
        let p1 = passed _ _ e in
        let p2 = passed _ _ p1.1 in
        let p3 = passed _ _ p2.1 in
        let p4 = passed _ _ p3.1 in
        let p5 = passed _ _ p4.1 in
        let p6 = passed _ _ p5.1 in
        let top : Row = t.root in
        let l = last_name_lem (path_of path) p1.0 p2.0 in
        let come = arrives end (walk (names (path_of path)) top) p3.0 p4.0 in
        let s : Row = arrived_or end (walk (names (path_of path)) top) in
        let last = last_entered l.0 l.1 top s (subst (λ (p : Path). walk (names p) top ≡ arrived s) l.2 come) in (
          record {
            ns = l.0;
            n = l.1;
            is = l.2;
            reached = subst (λ (x : Walked Node). T (not (is_missing x))) (sym last.1) tt;
            entered = subst (λ (x : Walked Node). T (not (is_blocked x))) (sym last.1) tt;
          },
          λ x a. let q : directory_node last.0 s ≡ x = cc (sym last.1 ∙ a) in
              subst (λ (y : Node). held (row_in y) ≤ 0) q (nltb→le 0 (held s) p6.0),
        )

    -- what is locked is a file
    pub lock_passed : (locked : Bool) {path : Bytes} → Passes (refusals w (set_lock locked path) t)
        → (l : Leads t path) × ((x : Node) → walk_to (below l.ns l.n) t.root ≡ arrived x → T (not (is_directory_node x)))
    unfolding refusals earlier later arrived_or
    lock_passed locked {path} e =
        let p1 = passed _ _ e in
        let p2 = passed _ _ p1.1 in
        let p3 = passed _ _ p2.1 in
        let p4 = passed _ _ p3.1 in
        let top : Row = t.root in
        let l = last_name_lem (path_of path) p1.0 (not_root (path_of path) top p4.0) in (
          record {
            ns = l.0;
            n = l.1;
            is = l.2;
            reached = subst (λ (p : Path). T (not (is_missing (walk_to p top)))) l.2 p2.0;
            entered = subst (λ (p : Path). T (not (is_blocked (walk_to p top)))) l.2 p3.0;
          },
          λ x a. subst (λ (y : Walked Node). T (not (is_directory_node (arrived_or (directory_node [] end) y)))) a
              (subst (λ (p : Path). T (not (is_directory_node (arrived_or (directory_node [] end) (walk_to p top))))) l.2 p4.0),
        )
