-- What a granted call of version 1 has passed: the laws of `version_laws`, which say it of the tree, and what follows for the bytes.
use mathlib.Core.Path.{◌≡◌, refl, sym, ap, ◌∙◌, subst}
use Prim.Native.Nat.{ℕ, ◌+◌, ◌-◌, ◌≤◌, max}
use native.Mathlib.Omega.{arith}
use mathlib.Core.Bool.{Bool, true, false, not, ◌||◌}
use mathlib.Core.Option.{Option, get_or}
use mathlib.Core.List.{List, [], ◌∷◌, ◌++◌}
use lib.ListN.{length}
use lib.Dec.{T, eqb, ltb, nltb→le}
use Rattle.volume.specs.Bytes.{Bytes}
use Rattle.volume.proofs.Tests.{not_not, if_no}
use Rattle.model.specs.Layout.{page_count, pages_for, valid_length, valid_header, zero_bits}
use Rattle.model.specs.Date.{good_date}
use Rattle.model.specs.Entry.{size_at, entry_at}
use Rattle.model.specs.Version1.{view}
use Rattle.model.specs.Sound.{sound}
use Rattle.model.specs.Tree.{Row, end, width, held, free_number, Node, file_node, directory_node, lookup}
use Rattle.model.specs.Path.{Name, Path, no_path, root, below, path_of, is_no_path, is_root, parents, names, last_name}
use Rattle.model.specs.Image.{row_at, tree_of, tree_in}
use Rattle.model.specs.Walk.{Walked, arrived, missing, blocked, walk, walk_to, arrived_or, parent_page, entry_position}
use Rattle.model.specs.Effect.{lowest_vacant, made}
use Rattle.model.specs.Call.{Call, write, remove_file, remove_directory, set_lock, Refusal, refusal}
use Rattle.model.specs.Refusal.{Line, is_missing, is_blocked, is_there, is_directory_node, content_in, row_in, node, size, wanted, buffer_lines, make_lines, refusals, Passes}
use Rattle.model.specs.Meaning.{sound_line, image_lines, is_format, lines}
use Rattle.model.specs.EffectOf
use Rattle.model.specs.MeaningOf
use Rattle.model.specs.RefusalOf
use Rattle.model.specs.Version.{v1}
use Rattle.version_laws.proofs.Passed as Any
use Rattle.laws.proofs.Facts.{Facts}
use Rattle.laws.proofs.Counting.{free_number_lem}
use Rattle.laws.proofs.Focus.{named_found}
use Rattle.laws.proofs.Walks.{node_of, Target, target, last_entered}
use Rattle.laws.proofs.Make.{Place, Clear, place_of, made_at}
use Rattle.laws.proofs.Write.{is_file_entry, node_file, file_content, file_size}
use Rattle.laws.proofs.Lines.{passed, passes_right}
use Rattle.laws.proofs.Names.{last_legal, date_length}

pub image_passed : (b : Bytes) (ls : List Line) → Passes (image_lines b ++ ls) → T (sound b) × Passes ls
image_passed = Any.image_passed v1

pub sound_passed : (c : Call) (b : Bytes) → T (not (is_format c)) → Passes (lines c b) → T (sound b) × Passes (refusals c (tree_of b))
sound_passed = Any.sound_passed v1

-- ---- the calls that change an image: what their lines say, where the path leads to a last name

pub record Makes (b path date : Bytes) (k : ℕ) : Type 0 where
  pub ns : List Name
  pub n : Name
  pub is : path_of path ≡ below ns n
  pub good : T (good_date date)
  pub clear : Clear b ns n date k

pub record Writes (b path : Bytes) (from : ℕ) (v : Bytes) : Type 0 where
  pub ns : List Name
  pub n : Name
  pub is : path_of path ≡ below ns n
  pub reached : T (not (is_missing (walk_to (below ns n) (row_at (page_count b) (view b) 0))))
  pub entered : T (not (is_blocked (walk_to (below ns n) (row_at (page_count b) (view b) 0))))
  pub leads : walk_to (below ns n) (row_at (page_count b) (view b) 0) ≡ arrived (node path (tree_of b))
  pub is_file : T (not (is_directory_node (node path (tree_of b))))
  pub begins : from ≤ size path (tree_of b)
  pub space : pages_for (max (size path (tree_of b)) (from + length v)) - pages_for (size path (tree_of b)) ≤ zero_bits b (page_count b)

pub record Locks (b path : Bytes) : Type 0 where
  pub ns : List Name
  pub n : Name
  pub is : path_of path ≡ below ns n
  pub reached : T (not (is_missing (walk_to (below ns n) (row_at (page_count b) (view b) 0))))
  pub entered : T (not (is_blocked (walk_to (below ns n) (row_at (page_count b) (view b) 0))))
  pub is_file : (x : Node) → walk_to (below ns n) (row_at (page_count b) (view b) 0) ≡ arrived x → T (not (is_directory_node x))

pub record Removes (b path : Bytes) : Type 0 where
  pub ns : List Name
  pub n : Name
  pub is : path_of path ≡ below ns n
  pub reached : T (not (is_missing (walk_to (below ns n) (row_at (page_count b) (view b) 0))))
  pub entered : T (not (is_blocked (walk_to (below ns n) (row_at (page_count b) (view b) 0))))
  pub empty : (x : Node) → walk_to (below ns n) (row_at (page_count b) (view b) 0) ≡ arrived x → held (row_in x) ≤ 0

arrives : {A : Type 0} (d : A) (w : Walked A) → T (not (is_missing w)) → T (not (is_blocked w)) → w ≡ arrived (arrived_or d w)
unfolding is_missing is_blocked arrived_or
arrives d (arrived x) u v = refl
arrives d (missing i) u v = absurd u
arrives d (blocked i) u v = absurd v

module _ {b : Bytes} (f : Facts b) where
  -- the free number is the number of zero bits
  pub space_free : {k : ℕ} → k ≤ free_number (tree_of b) → k ≤ zero_bits b (page_count b)
  space_free h = omega (arith, h, free_number_lem f, f.counted)

  -- what the lines of a granted make say, of the bytes
  pub clear_of : {ns : List Name} {n : Name} {date : Bytes} {k : ℕ} → Any.Clear v1 (tree_of b) ns n date k → Clear b ns n date k
  unfolding tree_in
  clear_of {ns} c = record {
    reached = c.reached;
    entered = c.entered;
    new = λ r a. (c.new r a, (passed _ _ (c.room r a)).0);
    legal = c.legal;
    long = c.long;
    dated = c.dated;
    space = space_free (c.space (arrived_or end (walk ns (tree_of b).root)) (arrives end (walk ns (tree_of b).root) c.reached c.entered));
  }

  pub make_passed : {path date : Bytes} {k : ℕ} (r : Refusal) → Passes (make_lines path date (tree_of b) ++ ((ltb (free_number (tree_of b)) k, r) ∷ [])) → Makes b path date k
  make_passed r e = let m = Any.make_passed v1 r e in record { ns = m.ns; n = m.n; is = m.is; good = m.good; clear = clear_of m.clear }

  pub write_passed : {path : Bytes} {from : ℕ} (v : Bytes) → Passes (refusals (write path from v) (tree_of b)) → Writes b path from v
  unfolding tree_in
  write_passed v e =
      let w = Any.write_passed v1 v e in
      let l = w.at in
      record { ns = l.ns; n = l.n; is = l.is; reached = l.reached; entered = l.entered; leads = w.leads; is_file = w.is_file; begins = w.begins; space = space_free w.space }

  removes_of : {path : Bytes} (l : Any.Leads (tree_of b) path) → ((x : Node) → walk_to (below l.ns l.n) (tree_of b).root ≡ arrived x → held (row_in x) ≤ 0) → Removes b path
  unfolding tree_in
  removes_of l h = record { ns = l.ns; n = l.n; is = l.is; reached = l.reached; entered = l.entered; empty = h }

  pub remove_file_passed : {path : Bytes} → Passes (refusals (remove_file path) (tree_of b)) → Removes b path
  unfolding tree_in
  remove_file_passed e = let r = Any.remove_file_passed v1 e in removes_of r.0 r.1

  pub remove_directory_passed : {path : Bytes} → Passes (refusals (remove_directory path) (tree_of b)) → Removes b path
  unfolding tree_in
  remove_directory_passed e = let r = Any.remove_directory_passed v1 e in removes_of r.0 r.1

  pub lock_passed : (locked : Bool) {path : Bytes} → Passes (refusals (set_lock locked path) (tree_of b)) → Locks b path
  unfolding tree_in
  lock_passed locked e =
      let r = Any.lock_passed v1 locked e in
      let l = r.0 in
      record { ns = l.ns; n = l.n; is = l.is; reached = l.reached; entered = l.entered; is_file = r.1 }

-- ---- where make and write work

module _ {b : Bytes} (f : Facts b) (path : Bytes) {date : Bytes} {k : ℕ} (m : Makes b path date k) where
  pub make_place : Place b m.ns m.n.bytes date k
  make_place = place_of f m.clear

  pub make_position : lowest_vacant b (parent_page b (path_of path)) ≡ make_place.at
  unfolding EffectOf.lowest_vacant arrived_or
  make_position =
      ap (λ (p : Path). lowest_vacant b (parent_page b p)) m.is
      ∙ ap (λ (u : Walked ℕ). lowest_vacant b (arrived_or 0 u)) make_place.above.page ∙ ap (λ (o : Option ℕ). get_or o 0) make_place.found

  pub make_image : (fl z : ℕ) → made fl z k (path_of path) date b ≡ made_at fl z k m.n.bytes date make_place.at b
  unfolding EffectOf.made
  make_image fl z =
      ap (λ (p : Path). made_at fl z k (last_name p) date (lowest_vacant b (parent_page b (path_of path))) b) m.is
      ∙ ap (λ (at : ℕ). made_at fl z k m.n.bytes date at b) make_position

module _ (b : Bytes) (f : Facts b) (path : Bytes) (from : ℕ) (v : Bytes) (w : Writes b path from v) where
  pub write_target : Target b w.ns w.n
  write_target = target f w.reached w.entered

  abbrev at : ℕ
  at = write_target.at

  pub write_position : entry_position b (path_of path) ≡ at
  write_position = ap (entry_position b) w.is ∙ write_target.position

  node_here : node path (tree_of b) ≡ node_of (view b) (row_at write_target.above.e (view b)) (entry_at b at)
  node_here = let l = w.leads in let r = write_target.node in cc

  pub write_file : T (is_file_entry (entry_at b at))
  write_file = node_file b (row_at write_target.above.e (view b)) w.n.bytes (entry_at b at) (named_found b write_target.above.t w.n.bytes at write_target.found).1
      (subst (λ (x : Node). T (not (is_directory_node x))) node_here w.is_file)

  pub write_size : size path (tree_of b) ≡ size_at b at
  write_size = ap (λ (x : Node). length (content_in x)) node_here ∙ ap length (file_content b f w.ns w.n write_target write_file) ∙ file_size b f w.ns w.n write_target write_file

  pub write_begins : from ≤ size_at b at
  write_begins = subst (λ (m : ℕ). from ≤ m) write_size w.begins

  pub write_space : pages_for (max (size_at b at) (from + length v)) - pages_for (size_at b at) ≤ zero_bits b (page_count b)
  write_space = subst (λ (m : ℕ). pages_for (max m (from + length v)) - pages_for m ≤ zero_bits b (page_count b)) write_size w.space
