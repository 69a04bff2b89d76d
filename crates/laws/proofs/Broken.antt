-- No chain of a sound image is broken: a file that is reached stands in a good directory, so its chain ends where its size says, and its pages are
-- among the owned ones, which are in range. A path leads to an entry that is reached.
use mathlib.Core.Path.{◌≡◌, refl, sym, ap, ap₂, ◌∙◌, subst}
use mathlib.Core.Logic.{inl, inr}
use Prim.Native.Nat.{ℕ, zero, suc}
use native.Mathlib.Omega.{arith}
use mathlib.Core.Bool.{Bool, true, false, not}
use mathlib.Core.List.{List, [], ◌∷◌}
use lib.Dec.{T, eqb, leb, ltb, eqb→eq, le→leb, lt→ltb}
use Rattle.volume.specs.Bytes.{Bytes}
use Rattle.volume.specs.Lists.{member}
use Rattle.volume.specs.Chain.{chain, beyond}
use Rattle.volume.proofs.Occ.{Mem, mem_head, mem_tail, mem_cons}
use Rattle.volume.proofs.Flat.{occ_flat_map_le, mem_flat_map}
use Rattle.volume.proofs.Tests.{and_both, both_and, member_occ, occ_member, occ_all}
use Rattle.model.specs.Layout.{page_count, pages_for, link}
use Rattle.model.specs.Name.{legal_name}
use Rattle.model.specs.Entry.{entries, Entry, vacant, a_file, a_directory, entry_at}
use Rattle.model.specs.Version1.{view}
use Rattle.model.specs.Sound.{pages_of, pages_at, good_entry, is_named, in_directory, good_directory, reached_by, reached, reached_entries, in_range}
use Rattle.model.specs.Tree.{Row, Node, file_node, directory_node}
use Rattle.model.specs.Path.{Name, Path, no_path, root, below, is_root}
use Rattle.model.specs.Image.{row_at, tree_of, tree_in}
use Rattle.model.specs.Walk.{Walked, arrived, walk_to, arrived_or, entry_position}
use Rattle.model.specs.Refusal.{is_missing, is_blocked, is_directory_node, is_locked_node, content_in}
use Rattle.model.specs.Demands.{Unbroken, WholeFile, WholeDirectory, Chains}
use Rattle.laws.proofs.Facts.{Facts, sound_facts_lem}
use Rattle.laws.proofs.Level.{good_split}
use Rattle.laws.proofs.Focus.{Leads, named_found}
use Rattle.laws.proofs.Walks.{node_of, Target, target}

-- ---- what is reached

reached_good : (d : ℕ) (b : Bytes) (p at : ℕ) → T (good_directory d (view b) p) → Mem at (reached d (view b) p) → T (good_entry (view b) (entry_at b at))
unfolding reached good_directory reached_by
reached_good zero b p at g m = absurd g
reached_good (suc d) b p at g m =
    let r = mem_flat_map (λ x. reached_by x (reached d (view b)) (entry_at b x)) (entries p) at m in
    let good = good_split d b p g in
    go r.0 (good.each r.0 r.1) (entry_at b r.0) (good.below r.0 r.1) r.2 (λ q. reached_good d b q at)
  where
    self : (x : ℕ) → T (good_entry (view b) (entry_at b x)) → at ≡ x → T (good_entry (view b) (entry_at b at))
    self x h e = subst (λ (y : ℕ). T (good_entry (view b) (entry_at b y))) (sym e) h

    go : (x : ℕ) → T (good_entry (view b) (entry_at b x)) → (e : Entry) → T (in_directory true (good_directory d (view b)) e) → Mem at (reached_by x (reached d (view b)) e)
        → ((q : ℕ) → T (good_directory d (view b) q) → Mem at (reached d (view b) q) → T (good_entry (view b) (entry_at b at))) → T (good_entry (view b) (entry_at b at))
    go x h vacant k n next = absurd (omega arith)
    go x h (a_file locked name date start size) k n next = elim (mem_cons at x [] n) [
      | inl e ↦ self x h e
      | inr o ↦ absurd (omega arith)
    ]
    go x h (a_directory name date start size) k n next = elim (mem_cons at x (reached d (view b) start) n) [
      | inl e ↦ self x h e
      | inr o ↦ next start k o
    ]

-- an entry that has a name, of a directory that names lead to, is reached
self_reached : (at : ℕ) (g : ℕ → List ℕ) (e : Entry) (n : Bytes) → T (is_named n e) → Mem at (reached_by at g e)
unfolding reached_by is_named
self_reached at g vacant n h = absurd h
self_reached at g (a_file locked name date start size) n h = mem_head at []
self_reached at g (a_directory name date start size) n h = mem_head at (g start)

leads_reached : (b : Bytes) (ns : List Name) (d p e t at : ℕ) → Leads b d p ns (suc e) t → Mem at (entries t) → (n : Bytes) → T (is_named n (entry_at b at)) → Mem at (reached d (view b) p)
unfolding reached reached_by
leads_reached b [] d p e t at l m n h =
    let here : Mem at (reached (suc e) (view b) t) =
    omega (arith, self_reached at (reached e (view b)) (entry_at b at) n h, occ_flat_map_le (λ x. reached_by x (reached e (view b)) (entry_at b x)) (entries t) at at m) in
    subst (λ (q : ℕ). Mem at (reached q (view b) p)) (sym l.0) (subst (λ (q : ℕ). Mem at (reached (suc e) (view b) q)) (sym l.1) here)
leads_reached b (k ∷ ns) zero p e t at l m n h = absurd l
leads_reached b (k ∷ ns) (suc d) p e t at l m n h =
    let next = leads_reached b ns d l.1 e t at l.4 m n h in
    let there : Mem at (reached_by l.0 (reached d (view b)) (entry_at b l.0)) =
    subst (λ (x : Entry). Mem at (reached_by l.0 (reached d (view b)) x)) (sym l.3.is) (mem_tail at l.0 (reached d (view b) l.1) next) in
    omega (arith, there, occ_flat_map_le (λ x. reached_by x (reached d (view b)) (entry_at b x)) (entries p) l.0 at (named_found b p k.bytes l.0 l.2).0)

-- ---- the theorem

abbrev date_in : Node → Bytes
date_in (file_node locked date content) = date
date_in (directory_node date r) = date

module _ (b : Bytes) (f : Facts b) where
  -- a page that a reached entry owns is in range
  pages_inside : (at q : ℕ) → T (member at (reached_entries b)) → Mem q (pages_at (view b) at) → T (in_range (view b) q)
  pages_inside at q m o =
      let r = f.inside q (omega (arith, o, occ_flat_map_le (pages_at (view b)) (reached_entries b) at q (member_occ at (reached_entries b) m))) in
      both_and (leb 1 q) (ltb q (page_count b)) (le→leb 1 q r.0) (lt→ltb q (page_count b) r.1)

  every_file_lem : (at : ℕ) → T (member at (reached_entries b)) → (locked : Bool) (name date : Bytes) (start size : ℕ) → entry_at b at ≡ a_file locked name date start size → Unbroken b start size
  unfolding good_entry pages_of
  every_file_lem at m locked name date start size e =
      let good = subst (λ (x : Entry). T (good_entry (view b) x)) e (reached_good (page_count b) b 0 at f.formed (member_occ at (reached_entries b) m)) in
      record {
        inside = occ_all (in_range (view b)) (chain (link b) (pages_for size) start)
            (λ q o. pages_inside at q m (subst (λ (x : Entry). Mem q (pages_of (view b) x)) (sym e) o));
        ends = eqb→eq (beyond (link b) (pages_for size) start) 0 (and_both (legal_name name) (eqb (beyond (link b) (pages_for size) start) 0) good).1;
      }

  every_directory_lem : (at : ℕ) → T (member at (reached_entries b)) → (name date : Bytes) (start size : ℕ) → entry_at b at ≡ a_directory name date start size
      → T (in_range (view b) start)
  unfolding pages_of
  every_directory_lem at m name date start size e = pages_inside at start m (subst (λ (x : Entry). Mem start (pages_of (view b) x)) (sym e) (mem_head start []))

  -- where a path leads, as an entry: it is reached, it is occupied, and the tree has it as this node
  record Led (x : Node) (at : ℕ) : Type 0 where
    is_reached : T (member at (reached_entries b))
    name : Bytes
    named : T (is_named name (entry_at b at))
    rows : ℕ → Row
    node : node_of (view b) rows (entry_at b at) ≡ x

  led : (path : Path) {x : Node} → walk_to path (tree_of b).root ≡ arrived x → T (not (is_root path)) → Led x (entry_position b path)
  unfolding walk_to tree_in is_missing is_blocked is_root arrived_or
  led no_path e h = absurd (subst (λ (w : Walked Node). T (is_missing w)) e tt)
  led root e h = absurd h
  led (below ns n) {x} e h =
      let w : Target b ns n = target f (subst (λ (w : Walked Node). T (not (is_missing w))) (sym e) tt) (subst (λ (w : Walked Node). T (not (is_blocked w))) (sym e) tt) in
      let r = named_found b w.above.t n.bytes w.at w.found in
      subst (Led x) (sym w.position) (record {
        is_reached = occ_member w.at (reached_entries b) (leads_reached b ns (page_count b) 0 w.above.e w.above.t w.at w.above.leads r.0 n.bytes r.1);
        name = n.bytes;
        named = r.1;
        rows = row_at w.above.e (view b);
        node = ap (arrived_or x) (sym w.node ∙ e);
      })

  to_file_lem : (path : Path) (locked : Bool) (date content : Bytes) → walk_to path (tree_of b).root ≡ arrived (file_node locked date content) → WholeFile b (entry_position b path) locked date content
  unfolding walk_to is_root is_named node_of pages_of is_directory_node is_locked_node content_in arrived_or
  to_file_lem path locked date content e = whole (led path e (below_root path e))
    where
      below_root : (p : Path) → walk_to p (tree_of b).root ≡ arrived (file_node locked date content) → T (not (is_root p))
      below_root no_path e = tt
      below_root root e = absurd (subst (λ (w : Walked Node). T (is_directory_node (arrived_or (file_node false [] []) w))) e tt)
      below_root (below ns n) e = tt

      whole : Led (file_node locked date content) (entry_position b path) → WholeFile b (entry_position b path) locked date content
      whole l = go (entry_at b (entry_position b path)) refl l.named l.node
        where
          go : (y : Entry) → entry_at b (entry_position b path) ≡ y → T (is_named l.name y) → node_of (view b) l.rows y ≡ file_node locked date content
              → WholeFile b (entry_position b path) locked date content
          go vacant q h k = absurd h
          go (a_file mark name d start size) q h k = record {
            name = name;
            start = start;
            size = size;
            is = q ∙ ap₂ (λ (m : Bool) (x : Bytes). a_file m name x start size) (ap is_locked_node k) (ap date_in k);
            unbroken = every_file_lem (entry_position b path) l.is_reached mark name d start size q;
            holds = ap content_in k;
          }
          go (a_directory name d start size) q h k = absurd (subst (λ (x : Node). T (is_directory_node x)) k tt)

  to_directory_lem : (path : Path) (date : Bytes) (r : Row) → walk_to path (tree_of b).root ≡ arrived (directory_node date r) → T (not (is_root path))
      → WholeDirectory b (entry_position b path) date
  unfolding is_named node_of is_directory_node
  to_directory_lem path date r e h = whole (led path e h)
    where
      whole : Led (directory_node date r) (entry_position b path) → WholeDirectory b (entry_position b path) date
      whole l = go (entry_at b (entry_position b path)) refl l.named l.node
        where
          go : (y : Entry) → entry_at b (entry_position b path) ≡ y → T (is_named l.name y) → node_of (view b) l.rows y ≡ directory_node date r
              → WholeDirectory b (entry_position b path) date
          go vacant q h k = absurd h
          go (a_file mark name d start size) q h k = absurd (subst (λ (x : Node). T (not (is_directory_node x))) k tt)
          go (a_directory name d start size) q h k = record {
            name = name;
            start = start;
            size = size;
            is = q ∙ ap (λ (x : Bytes). a_directory name x start size) (ap date_in k);
            inside = every_directory_lem (entry_position b path) l.is_reached name d start size q;
          }

pub never_broken : Chains
never_broken b h =
    let f = sound_facts_lem h in
    record { every_file = every_file_lem b f; every_directory = every_directory_lem b f; to_file = to_file_lem b f; to_directory = to_directory_lem b f }
