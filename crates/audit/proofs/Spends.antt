-- What claims leave: as long a row, with fewer pages that nobody owns.
use mathlib.Core.Path.{◌≡◌, refl, ◌∙◌}
use Prim.Native.Nat.{ℕ, zero, suc, ◌+◌, ◌≤◌, ◌<◌}
use native.Mathlib.Omega.{arith}
use mathlib.Core.Bool.{Bool, true, false, ◌&&◌}
use mathlib.Core.List.{List, [], ◌∷◌, ◌++◌, flat_map}
use lib.ListN.{length, get_or, set, length-set, length-append}
use lib.Dec.{eqb, ltb}
use borrow.Author.Tests.{eqb-true, ltb-true}
use Rattle.volume.specs.Bytes.{Bytes}
use Rattle.std.specs.Prelude.{if◌then◌else◌}
use Rattle.volume.specs.Chain.{chain}
use Rattle.volume.proofs.Occ.{Mem, mem_head, mem_tail}
use Rattle.model.specs.Layout.{pages_for, link}
use Rattle.model.specs.Name.{legal_name}
use Rattle.model.specs.Entry as Model
use Rattle.model.specs.Entry.{entry_at}
use Rattle.model.specs.Version1.{view}
use Rattle.model.specs.Sound.{pages_of, pages_at}
use Rattle.claims.specs.Claim.{Visited, stops, goes, then_visit, claim, claim_chain, claim_entry, claim_entries}
use Rattle.audit.specs.Visit.{free}

free_set : (row : List ℕ) (p at : ℕ) → 1 ≤ at → p < length row → get_or row p 0 ≡ 0 → free row ≡ suc (free (set row p at))
unfolding free
free_set [] p at k l h = absurd (omega arith)
free_set (x ∷ row) zero at k l h = omega arith
free_set (x ∷ row) (suc p) at k l h = omega (arith, free_set row p at k (omega arith) h)

abbrev pub Spends : (ps row : List ℕ) → Visited → Type 0
Spends ps row stops = Unit {0}
Spends ps row (goes r) = (length r ≡ length row) × (free r + length ps ≡ free row)

spends_if : (ps row : List ℕ) (c : Bool) (v : Visited) → Spends ps row v → Spends ps row (if c then v else stops)
spends_if ps row true v h = h
spends_if ps row false v h = tt

spends_then : (ps qs row : List ℕ) (v : Visited) (on : List ℕ → Visited) → Spends ps row v → ((s : List ℕ) → Spends qs s (on s)) → Spends (ps ++ qs) row (then_visit v on)
unfolding then_visit
spends_then ps qs row stops on h k = tt
spends_then ps qs row (goes s) on h k = more (on s) (k s)
  where
    more : (v : Visited) → Spends qs s v → Spends (ps ++ qs) row v
    more stops w = tt
    more (goes r) w = (w.0 ∙ h.0, omega (arith, w.1, h.1, length-append ps qs))

page_spends : (at p : ℕ) (row : List ℕ) → 1 ≤ at → Spends (p ∷ []) row (claim at p row)
unfolding claim
page_spends at p row l = go (ltb p (length row)) (eqb (get_or row p 0) 0) refl refl
  where
    go : (c k : Bool) → ltb p (length row) ≡ c → eqb (get_or row p 0) 0 ≡ k → Spends (p ∷ []) row (if c && k then goes (set row p at) else stops)
    go true true u z = (length-set row p at, omega (arith, free_set row p at l (ltb-true p (length row) u) (eqb-true (get_or row p 0) 0 z)))
    go true false u z = tt
    go false k u z = tt

chain_spends : (b : Bytes) (at k p : ℕ) (row : List ℕ) → 1 ≤ at → Spends (chain (link b) k p) row (claim_chain b at k p row)
unfolding claim_chain chain
chain_spends b at zero p row l = spends_if [] row (eqb p 0) (goes row) (refl, omega arith)
chain_spends b at (suc k) p row l =
    spends_then (p ∷ []) (chain (link b) k (link b p)) row (claim at p row) (claim_chain b at k (link b p)) (page_spends at p row l) (λ s. chain_spends b at k (link b p) s l)

pub entry_spends : (b : Bytes) (at : ℕ) (e : Model.Entry) (row : List ℕ) → 1 ≤ at → Spends (pages_of (view b) e) row (claim_entry b at e row)
unfolding claim_entry pages_of
entry_spends b at Model.vacant row l = (refl, omega arith)
entry_spends b at (Model.a_file locked name date start size) row l = spends_if (chain (link b) (pages_for size) start) row (legal_name name) (claim_chain b at (pages_for size) start row) (chain_spends b at (pages_for size) start row l)
entry_spends b at (Model.a_directory name date start size) row l = spends_if (start ∷ []) row (legal_name name && eqb size 0x0100) (claim at start row) (page_spends at start row l)

pub entries_spend : (b : Bytes) (ats row : List ℕ) → ((at : ℕ) → Mem at ats → 1 ≤ at) → Spends (flat_map (pages_at (view b)) ats) row (claim_entries b ats row)
unfolding claim_entries flat_map
entries_spend b [] row h = (refl, omega arith)
entries_spend b (at ∷ ats) row h =
    spends_then (pages_at (view b) at) (flat_map (pages_at (view b)) ats) row (claim_entry b at (entry_at b at) row) (claim_entries b ats) (entry_spends b at (entry_at b at) row (h at (mem_head at ats)))
    (λ s. entries_spend b ats s (λ x m. h x (mem_tail x at ats m)))
