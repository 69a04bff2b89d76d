-- On a sound image the last condition of `accepted` is one of the links of files' pages alone, so that a check needs no walk along chains.
use mathlib.Core.Path.{◌≡◌, refl, sym, ap, ◌∙◌, subst}
use mathlib.Core.Logic.{inl, inr, ◌↔◌}
use Prim.Native.Nat.{ℕ, zero, suc, ◌-◌, ◌≤◌, ◌<◌}
use native.Mathlib.Omega.{arith}
use mathlib.Core.Bool.{true}
use mathlib.Core.List.{List, [], map}
use lib.ListN.{length}
use lib.Dec.{T, eqb, eqb→eq}
use Rattle.volume.specs.Bytes.{Bytes, same}
use Rattle.volume.specs.Lists.{count_from}
use Rattle.volume.specs.Chain.{chain, beyond}
use Rattle.volume.proofs.Occ.{Mem, mem_cons}
use Rattle.volume.proofs.Tests.{and_both}
use Rattle.volume.proofs.Flat.{mem_flat_map}
use Rattle.volume.proofs.Chains.{chain_length}
use Rattle.model.specs.Layout.{page_count, pages_for, link}
use Rattle.model.specs.Name.{legal_name}
use Rattle.model.specs.Entry.{entries, Entry, vacant, a_file, a_directory, entry_at}
use Rattle.model.specs.Version1.{view}
use Rattle.model.specs.Sound.{pages_of, pages_at, good_entry, in_directory, good_directory, reached_by, reached, reached_entries, owners}
use Rattle.model.specs.Demands.{Owned, is_free, is_owned}
use Rattle.laws.proofs.Facts.{Facts}
use Rattle.laws.proofs.Lists.{page_owned}
use Rattle.laws.proofs.Level.{good_split}
use Rattle.moves.specs.Tidy.{place_of, neighbours, first_entry, owner_entry}
use Rattle.moves.specs.Propose.{is_file_entry}
use Rattle.audit.proofs.Owners.{owner_is}
use Rattle.moves.proofs.Helper.{owner_has}
use Rattle.moves.proofs.Near.{Linked, chain_near, near_chain, neighbours_is, is_neighbours}
use Rattle.moves.proofs.Bytewise.{length-map}

-- every entry that is reached from a good directory is good
deeper : (d : ℕ) (b : Bytes) (at x : ℕ) (e : Entry) → entry_at b at ≡ e → T (good_entry (view b) e) → T (in_directory true (good_directory d (view b)) e)
    → ((p x : ℕ) → T (good_directory d (view b) p) → Mem x (reached d (view b) p) → T (good_entry (view b) (entry_at b x))) → Mem x (reached_by at (reached d (view b)) e) → T (good_entry (view b) (entry_at b x))
unfolding reached_by
deeper d b at x vacant q g h ih m = absurd (omega arith)
deeper d b at x (a_file locked name date start size) q g h ih m = elim (mem_cons x at [] m) [
  | inl u ↦ subst (λ (y : Entry). T (good_entry (view b) y)) (sym (ap (entry_at b) u ∙ q)) g
  | inr k ↦ absurd (omega arith)
]
deeper d b at x (a_directory name date start size) q g h ih m = elim (mem_cons x at (reached d (view b) start) m) [
  | inl u ↦ subst (λ (y : Entry). T (good_entry (view b) y)) (sym (ap (entry_at b) u ∙ q)) g
  | inr k ↦ ih start x h k
]

pub good_reached : (d : ℕ) (b : Bytes) (p x : ℕ) → T (good_directory d (view b) p) → Mem x (reached d (view b) p) → T (good_entry (view b) (entry_at b x))
unfolding reached
good_reached zero b p x g m = absurd (omega arith)
good_reached (suc d) b p x g m =
    let r = good_split d b p g in
    let w = mem_flat_map (λ at. reached_by at (reached d (view b)) (entry_at b at)) (entries p) x m in
    deeper d b w.0 x (entry_at b w.0) refl (r.each w.0 w.1) (r.below w.0 w.1) (λ q y. good_reached d b q y) w.2

module _ (b : Bytes) (f : Facts b) (places : List ℕ) where
  abbrev to : ℕ → ℕ
  to = place_of places

  -- the links of files' pages lead to the next number
  abbrev LinksNear : Type 0
  LinksNear = (p : ℕ) → 1 ≤ p → p < page_count b → T (is_file_entry (owner_entry b p)) → Linked (link b) to p

  abbrev FilesNear : Type 0
  FilesNear = (at : ℕ) → Mem at (reached_entries b) → T (neighbours (map to (pages_at (view b) at)))

  owner_entry_lem : (at q : ℕ) → Mem at (reached_entries b) → Mem q (pages_at (view b) at) → owner_entry b q ≡ entry_at b at
  unfolding owner_entry
  owner_entry_lem at q m k = ap (first_entry b) (owner_is b f at q m k).2

  cons_near : (k p : ℕ) → map to (chain (link b) (suc k) p) ≡ count_from (to p) (suc k) → T (neighbours (map to (chain (link b) (suc k) p)))
  unfolding chain
  cons_near k p e = is_neighbours (to p) k (map to (chain (link b) k (link b p))) e

  near_cons : (k p : ℕ) → T (neighbours (map to (chain (link b) (suc k) p))) → map to (chain (link b) (suc k) p) ≡ count_from (to p) (suc k)
  unfolding chain
  near_cons k p h =
      let n : length (map to (chain (link b) k (link b p))) ≡ k = length-map to (chain (link b) k (link b p)) ∙ chain_length (link b) k (link b p) in
      neighbours_is (to p) (map to (chain (link b) k (link b p))) h ∙ ap (λ (m : ℕ). count_from (to p) (suc m)) n

  one_more : (size : ℕ) → pages_for size ≡ suc (pages_for size - 1)
  unfolding pages_for
  one_more size = omega arith

  file_near : (e : Entry) → ((p : ℕ) → Mem p (pages_of (view b) e) → (1 ≤ p) × (T (is_file_entry e) → Linked (link b) to p)) → T (neighbours (map to (pages_of (view b) e)))
  unfolding pages_of neighbours count_from same
  file_near vacant h = tt
  file_near (a_directory name date start size) h = tt
  file_near (a_file locked name date start size) h =
      let k : ℕ = pages_for size - 1 in
      let e : pages_for size ≡ suc k = one_more size in
      subst (λ (n : ℕ). T (neighbours (map to (chain (link b) n start)))) (sym e) (cons_near k start (chain_near (link b) to k start (λ q m.
      let r = h q (subst (λ (n : ℕ). Mem q (chain (link b) n start)) (sym e) m) in (r.0, r.1 tt))))

  near_file : (e : Entry) → T (is_file_entry e) → T (good_entry (view b) e) → (p : ℕ) → Mem p (pages_of (view b) e) → T (neighbours (map to (pages_of (view b) e))) → Linked (link b) to p
  unfolding pages_of good_entry
  near_file vacant t g p m h = absurd t
  near_file (a_directory name date start size) t g p m h = absurd t
  near_file (a_file locked name date start size) t g p m h =
      let k : ℕ = pages_for size - 1 in
      let e : pages_for size ≡ suc k = one_more size in
      let z : beyond (link b) (pages_for size) start ≡ 0 = eqb→eq (beyond (link b) (pages_for size) start) 0 (and_both (legal_name name) (eqb (beyond (link b) (pages_for size) start) 0) g).1 in
      elim (near_chain (link b) to k start (near_cons k start (subst (λ (n : ℕ). T (neighbours (map to (chain (link b) n start)))) e h)) p (subst (λ (n : ℕ). Mem p (chain (link b) n start)) e m)) [
        | inl q ↦ inl (q ∙ ap (λ (n : ℕ). beyond (link b) n start) (sym e) ∙ z)
        | inr q ↦ inr q
      ]

  free_page : (p : ℕ) → owners b p ≡ [] → T (is_file_entry (owner_entry b p)) → ⊥
  unfolding owner_entry
  free_page p e t = subst (λ (l : List ℕ). T (is_file_entry (first_entry b l))) e t

  to_files : LinksNear → FilesNear
  to_files h at m = file_near (entry_at b at) (λ p k.
      let o = owner_is b f at p m k in
      (o.0, λ t. h p o.0 o.1 (subst (λ (y : Entry). T (is_file_entry y)) (sym (owner_entry_lem at p m k)) t)))

  to_links : FilesNear → LinksNear
  to_links h p l u t = go (page_owned f p l u)
    where
      go : Owned b p → Linked (link b) to p
      go (is_free z e) = absurd (free_page p e t)
      go (is_owned x o e) =
          let r = owner_has b f p x e in
          near_file (entry_at b x) (subst (λ (y : Entry). T (is_file_entry y)) (owner_entry_lem x p r.0 r.1) t) (good_reached (page_count b) b 0 x f.formed r.0) p r.1 (h x r.0)

  pub links_near : LinksNear ↔ FilesNear
  links_near = (to_files, to_links)
