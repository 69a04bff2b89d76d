-- The room that a make of version 2 has: a full directory is lengthened first, by a page of free entries. So an entry is free afterwards, the names lead to the
-- directory as before, and the pages for the new entry are left.
use mathlib.Core.Path.{◌≡◌, refl, sym, ap, ◌∙◌, subst}
use Prim.Native.Nat.{ℕ, suc, ◌-◌, ◌/◌, ◌≤◌, ◌<◌}
use native.Mathlib.Omega.{arith}
use mathlib.Core.Bool.{not}
use mathlib.Core.Option.{Option, none, some}
use mathlib.Core.List.{List}
use lib.ListN.{length}
use lib.Dec.{T}
use Rattle.volume.specs.Bytes.{Bytes, byte_at}
use Rattle.std.specs.Prelude.{if◌then◌else◌}
use Rattle.volume.specs.Lists.{first}
use Rattle.volume.specs.Chain.{chain, beyond, linked}
use Rattle.volume.specs.Geometry as On
use Rattle.volume.proofs.Occ.{occ, not_mem}
use Rattle.volume.proofs.Tests.{if_yes, if_no}
use Rattle.volume.proofs.Chains.{chain_last}
use Rattle.volume.proofs.Lawful.{Kept}
use Rattle.volume.proofs.Grow.{gained_is}
use Rattle.model.specs.Tree.{Row, is_full, lookup, extend}
use Rattle.model.specs.Path.{Name}
use Rattle.model.specs.Image.{row_at}
use Rattle.model.specs.Walk.{walk, change_at}
use Rattle.model.specs.EffectOf.{is_vacant, lengthened, lengthened_if_full, roomy}
use Rattle.view_laws.proofs.Facts.{Facts}
use Rattle.view_laws.proofs.Walks.{Parent, parent_at}
use Rattle.view_laws.proofs.Ways.{leads_walk}
use Rattle.view_laws.proofs.Rows.{walk_changed, change_same, change_none, extend_roomy, extend_names}
use Rattle.view_laws.proofs.Making.{none_full, some_roomy}
use Rattle.view_laws.proofs.Chained.{linked_first}
use Rattle.model2.specs.Layout.{page_size, page_count, is_wide, geometry2}
use Rattle.model2.specs.Entry.{start_field}
use Rattle.model2.specs.Version2.{next_by, view_by, layout2}
use Rattle.laws2.proofs.Bounds.{Allowed, bounds}
use Rattle.laws2.proofs.Lawful2.{link_place, lawful2}
use Rattle.laws2.proofs.Version2.{tabled, sized2, head_home, lengthened_bytes2, lengthened_leads2, lengthened2}
use Rattle.laws2.proofs.Targets2.{parent_ends}

-- a row with a page of free entries more, if it is full
abbrev pub widened : ℕ → Row → Row
widened m r = if is_full r then extend m r else r

-- b' is b with room for an entry in the directory t, and k pages are left
pub record Roomy (code n : ℕ) (b : Bytes) (ns : List Name) (row : Row) (t k : ℕ) (b' : Bytes) : Type 0 where
  pub size : length b' ≡ n
  pub head : (i : ℕ) → i < 7 → Kept (geometry2 code n) (page_count code n) i → byte_at b' i ≡ byte_at b i
  pub facts : Facts (view_by code n b')
  pub means : row_at (page_count code n) (view_by code n b') 0 ≡ change_at ns (widened (page_size code / 32)) (row_at (page_count code n) (view_by code n b) 0)
  pub above : Parent (view_by code n b') ns
  pub there : above.t ≡ t
  pub room : T (not (is_full (row_at (suc above.e) (view_by code n b') above.t)))
  pub names : (name : Bytes) → lookup name (row_at (suc above.e) (view_by code n b') above.t) ≡ lookup name row
  pub space : k ≤ On.zero_bits (geometry2 code n) b' (page_count code n)

module _ {code n : ℕ} (a : Allowed code n) (b : Bytes) (len : length b ≡ n) (f : Facts (view_by code n b)) (ns : List Name) (p : Parent (view_by code n b) ns)
    (k : ℕ) where
  abbrev row : Row
  row = row_at (suc p.e) (view_by code n b) p.t

  ends : T ((view_by code n b).directory_ends p.t)
  ends = parent_ends a f p

  -- it has an empty entry
  as_it_is : T (not (is_full row)) → k ≤ On.zero_bits (geometry2 code n) b (page_count code n) → Roomy code n b ns row p.t k b
  as_it_is free space = record {
    size = len;
    head = λ i l h. refl;
    facts = f;
    means = sym (change_none ns (widened (page_size code / 32)) (row_at (page_count code n) (view_by code n b) 0) row p.row
        (if_no (is_full row) (extend (page_size code / 32) row) row free));
    above = p;
    there = refl;
    room = free;
    names = λ name. refl;
    space = space;
  }

  -- it is full, and has suc j pages
  module _ (j : ℕ) (is : linked (next_by code n b) (page_count code n) p.t ≡ suc j)
      (enough : suc k ≤ On.zero_bits (geometry2 code n) b (page_count code n)) where
    one : 1 ≤ On.zero_bits (geometry2 code n) b (page_count code n)
    one = omega (arith, enough)

    abbrev last : ℕ
    last = beyond (next_by code n b) j p.t

    abbrev b' : Bytes
    b' = On.grown (geometry2 code n) (page_count code n) 1 ((geometry2 code n).link last) b

    -- that is what the definition says
    lengthened_is : lengthened layout2 (view_by code n b) p.t ≡ b'
    unfolding lengthened On.joint_of chain
    lengthened_is =
        ap (λ (i : ℕ). On.grown (geometry2 code n) (page_count code n) 1 (On.joint_of (geometry2 code n) (start_field 0) (chain (next_by code n b) i p.t)) b) is
        ∙ ap (λ (q : ℕ). On.grown (geometry2 code n) (page_count code n) 1 ((geometry2 code n).link q) b) (chain_last (next_by code n b) j p.t)

    grew : Facts (view_by code n b')
        × (row_at (page_count code n) (view_by code n b') 0 ≡ change_at ns (extend (page_size code / 32)) (row_at (page_count code n) (view_by code n b) 0))
    grew = lengthened2 a b len ns p.e p.t j is one f p.leads ends p.good

    above' : (q : Parent (view_by code n b') ns) × (q.t ≡ p.t)
    above' = parent_at (view_by code n b') grew.0.formed ns p.t
        (leads_walk (view_by code n b') ns (page_count code n) 0 (suc p.e) p.t (lengthened_leads2 a b len ns p.e p.t j is one f p.leads ends))

    row' : row_at (suc above'.0.e) (view_by code n b') above'.0.t ≡ extend (page_size code / 32) row
    row' =
        let there = ap (walk ns) grew.1 ∙ walk_changed ns (extend (page_size code / 32)) (row_at (page_count code n) (view_by code n b) 0) row p.row in
        cc (sym above'.0.row ∙ there)

    extended : T (is_full row) → Roomy code n b ns row p.t k b'
    extended full =
        let g = lengthened_bytes2 a b len ns p.e p.t j is one f p.leads ends in
        let new = gained_is (lawful2 (tabled a)) 1 b (sized2 a b len) f.aside one in
        let low = (tabled a).one in
        let large = (bounds a).large in
        record {
          size = g.size ∙ len;
          head = λ i l h. g.rest i h
              (λ y. absurd (omega (arith, (link_place (is_wide n) (page_size code) last).0, large, l, y)))
              (ap (λ (q : ℕ). occ q (On.gained (geometry2 code n) (page_count code n) 1 b)) (head_home a i l)
              ∙ not_mem 0 (On.gained (geometry2 code n) (page_count code n) 1 b) (λ m. omega (arith, (new.new 0 m).0, low)));
          facts = grew.0;
          means = grew.1 ∙ change_same ns (extend (page_size code / 32)) (widened (page_size code / 32)) (row_at (page_count code n) (view_by code n b) 0) row p.row
              (sym (if_yes (is_full row) (extend (page_size code / 32) row) row full));
          above = above'.0;
          there = above'.1;
          room = subst (λ (r : Row). T (not (is_full r))) (sym row') (extend_roomy (page_size code / 32) row (omega (arith, large)));
          names = λ name. ap (lookup name) row' ∙ extend_names name (page_size code / 32) row;
          space = omega (arith, g.count, f.counted, grew.0.counted, enough);
        }

  -- the image with room, as the definition says it
  pub roomy_is : (if is_full row then suc k else k) ≤ On.zero_bits (geometry2 code n) b (page_count code n)
      → Roomy code n b ns row p.t k (roomy layout2 (view_by code n b) p.t)
  unfolding lengthened_if_full
  roomy_is enough = go (first (λ at. is_vacant ((view_by code n b).entry_at at)) ((view_by code n b).entries p.t)) refl
    where
      go : (o : Option ℕ) → first (λ at. is_vacant ((view_by code n b).entry_at at)) ((view_by code n b).entries p.t) ≡ o
          → Roomy code n b ns row p.t k (lengthened_if_full layout2 (view_by code n b) p.t o)
      go none e =
          let full = none_full (view_by code n b) p.e p.t e in
          let l = linked_first (next_by code n b) (page_count code n) p.t (omega (arith, (bounds a).some)) in
          let more = subst (λ (m : ℕ). m ≤ On.zero_bits (geometry2 code n) b (page_count code n)) (if_yes (is_full row) (suc k) k full) enough in
          subst (Roomy code n b ns row p.t k) (sym (lengthened_is l.0 l.1 more)) (extended l.0 l.1 more full)
      go (some at) e =
          let free = some_roomy (view_by code n b) p.e p.t at e in
          as_it_is free (subst (λ (m : ℕ). m ≤ On.zero_bits (geometry2 code n) b (page_count code n)) (if_no (is_full row) (suc k) k free) enough)
