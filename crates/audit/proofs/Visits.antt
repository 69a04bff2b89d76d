-- The second judge visits the directories one after the other, and what it has still to claim is what the pending ones own. So it says yes
-- exactly if they are good and their pages can have their owners, and then the row names the entry that owns each.
use mathlib.Core.Path.{◌≡◌, refl, sym, ap, ◌∙◌, subst}
use mathlib.Core.Logic.{inl, inr}
use Prim.Native.Nat.{ℕ, zero, suc, ◌+◌, ◌-◌, ◌≤◌, ◌<◌}
use native.Mathlib.Omega.{arith}
use mathlib.Core.Bool.{Bool, true, false, ◌&&◌}
use mathlib.Core.List.{List, [], ◌∷◌, ◌++◌, flat_map}
use lib.ListN.{length, get_or, set, length-set}
use lib.Seq.{get_or-set_same, get_or-set_other}
use lib.Dec.{T, eqb, ltb, eqb→eq, ltb→lt, lt→ltb}
use Rattle.volume.specs.Bytes.{Bytes}
use Rattle.std.specs.Prelude.{if◌then◌else◌}
use Rattle.volume.specs.Chain.{chain, beyond}
use Rattle.volume.proofs.Occ.{hit_refl, occ, Mem, occ_append, mem_head, mem_tail, mem_cons, mem_or_not}
use Rattle.volume.proofs.Tests.{and_both, both_and, eq-eqb}
use Rattle.model.specs.Layout.{pages_for, link}
use Rattle.model.specs.Name.{legal_name}
use Rattle.model.specs.Entry.{Entry, vacant, a_file, a_directory, entry_at}
use Rattle.model.specs.Version1.{view}
use Rattle.model.specs.Sound.{pages_of, pages_at, good_entry}
use Rattle.claims.specs.Claim.{Visited, stops, goes, then_visit, claim, claim_chain, claim_entry, claim_entries}

-- 1 if the page has an owner, and 0 if not
abbrev pub used : List ℕ → ℕ → ℕ
used row q = 1 - (1 - get_or row q 0)

-- each of the pages ps can have its owner after those of the row
abbrev pub Ownable : List ℕ → List ℕ → Type 0
Ownable ps row = (q : ℕ) → Mem q ps → (q < length row) × (occ q ps + used row q ≤ 1)

-- the pages ps got owners, as `names` tells
pub record Sets (names : ℕ → ℕ → Type 0) (ps row row' : List ℕ) : Type 0 where
  pub long : length row' ≡ length row
  pub kept : (q : ℕ) → occ q ps ≡ 0 → get_or row' q 0 ≡ get_or row q 0
  pub named : (q : ℕ) → Mem q ps → names q (get_or row' q 0)
  pub some : (q : ℕ) → Mem q ps → 1 ≤ get_or row' q 0

-- what a part of the visit tells, a part that claims the pages ps if all is good
pub data Tells (names : ℕ → ℕ → Type 0) (good : Type 0) (ps row : List ℕ) : Visited → Type 0 where
  refuted : (good → Ownable ps row → ⊥) → Tells names good ps row stops
  proved : (row' : List ℕ) → good → Ownable ps row → Sets names ps row row' → Tells names good ps row (goes row')

tells_iff : {names : ℕ → ℕ → Type 0} {good better : Type 0} {ps row : List ℕ} {v : Visited} → (good → better) → (better → good) → Tells names good ps row v → Tells names better ps row v
tells_iff to from (refuted n) = refuted (λ g. n (from g))
tells_iff to from (proved s g o c) = proved s (to g) o c

tells_if : {names : ℕ → ℕ → Type 0} {good : Type 0} {ps row : List ℕ} {v : Visited} (c : Bool) → Tells names good ps row v → Tells names (T c × good) ps row (if c then v else stops)
tells_if true t = tells_iff (λ g. (tt, g)) (λ g. g.1) t
tells_if false t = refuted (λ g o. g.0)

-- a page has an owner after a part if it had one before or the part claimed it
pub used_after : {names : ℕ → ℕ → Type 0} {ps row row' : List ℕ} → Ownable ps row → Sets names ps row row' → (q : ℕ) → used row' q ≡ occ q ps + used row q
used_after {ps = ps} o c q = elim (mem_or_not q ps) [
  | inl m ↦ omega (arith, c.some q m, (o q m).1)
  | inr z ↦ omega (arith, c.kept q z)
]

-- two parts one after the other
module _ {names : ℕ → ℕ → Type 0} {ps row s : List ℕ} (qs : List ℕ) (o : Ownable ps row) (c : Sets names ps row s) where
  pub ownable_rest : Ownable (ps ++ qs) row → Ownable qs s
  ownable_rest w q m =
      let r = w q (omega (arith, occ_append q ps qs)) in
      (omega (arith, r.0, c.long), omega (arith, r.1, occ_append q ps qs, used_after o c q))

  pub ownable_both : Ownable qs s → Ownable (ps ++ qs) row
  ownable_both o' q m = elim (mem_or_not q qs) [
    | inl k ↦ let r = o' q k in (omega (arith, r.0, c.long), omega (arith, r.1, occ_append q ps qs, used_after o c q))
    | inr z ↦ let r = o q (omega (arith, occ_append q ps qs)) in (r.0, omega (arith, r.1, occ_append q ps qs))
  ]

  pub sets_both : {r : List ℕ} → Sets names qs s r → Sets names (ps ++ qs) row r
  sets_both c' = record {
    long = c'.long ∙ c.long;
    kept = λ q z. c'.kept q (omega (arith, occ_append q ps qs)) ∙ c.kept q (omega (arith, occ_append q ps qs));
    named = λ q m. elim (mem_or_not q qs) [
      | inl k ↦ c'.named q k
      | inr z ↦ subst (names q) (sym (c'.kept q z)) (c.named q (omega (arith, occ_append q ps qs)))
    ];
    some = λ q m. elim (mem_or_not q qs) [
      | inl k ↦ c'.some q k
      | inr z ↦ omega (arith, c'.kept q z, c.some q (omega (arith, occ_append q ps qs)))
    ];
  }

-- the same pages in another order
pub ownable_occ : (ps qs row : List ℕ) → ((q : ℕ) → occ q qs ≡ occ q ps) → Ownable ps row → Ownable qs row
ownable_occ ps qs row e o q m = let r = o q (omega (arith, e q)) in (r.0, omega (arith, r.1, e q))

pub sets_occ : {names : ℕ → ℕ → Type 0} {ps row r : List ℕ} (qs : List ℕ) → ((q : ℕ) → occ q qs ≡ occ q ps) → Sets names ps row r → Sets names qs row r
sets_occ qs e c = record {
  long = c.long;
  kept = λ q z. c.kept q (omega (arith, e q));
  named = λ q m. c.named q (omega (arith, e q));
  some = λ q m. c.some q (omega (arith, e q));
}

pub sets_names : {names others : ℕ → ℕ → Type 0} {ps row r : List ℕ} → ((q x : ℕ) → Mem q ps → names q x → others q x) → Sets names ps row r → Sets others ps row r
sets_names {r = r} h c = record { long = c.long; kept = c.kept; named = λ q m. h q (get_or r q 0) m (c.named q m); some = c.some }

tells_names : {names others : ℕ → ℕ → Type 0} {good : Type 0} {ps row : List ℕ} {v : Visited} → ((q x : ℕ) → Mem q ps → names q x → others q x) → Tells names good ps row v → Tells others good ps row v
tells_names h (refuted n) = refuted n
tells_names h (proved s g o c) = proved s g o (sets_names h c)

tells_then : {names : ℕ → ℕ → Type 0} {good more : Type 0} {ps qs row : List ℕ} {v : Visited} {on : List ℕ → Visited}
    → Tells names good ps row v → ((s : List ℕ) → good → Sets names ps row s → Tells names more qs s (on s)) → Tells names (good × more) (ps ++ qs) row (then_visit v on)
unfolding then_visit
tells_then {ps = ps} {qs = qs} (refuted n) u = refuted (λ g o. n g.0 (λ q m.
    let r = o q (omega (arith, occ_append q ps qs)) in (r.0, omega (arith, r.1, occ_append q ps qs))))
tells_then {names} {good} {more} {ps} {qs} {row} (proved s g o c) u = go (u s g c)
  where
    go : {v : Visited} → Tells names more qs s v → Tells names (good × more) (ps ++ qs) row v
    go (refuted n) = refuted (λ g w. n g.1 (ownable_rest qs o c w))
    go (proved s' g' o' c') = proved s' (g, g') (ownable_both qs o c o') (sets_both qs o c c')

none_told : (names : ℕ → ℕ → Type 0) (row : List ℕ) → Tells names (Unit {0}) [] row (goes row)
none_told names row = proved row tt (λ q m. absurd (omega arith))
    (record { long = refl; kept = λ q z. refl; named = λ q m. absurd (omega arith); some = λ q m. absurd (omega arith) })

-- ---- pages

-- the owner is the entry at this position
abbrev Is : ℕ → ℕ → ℕ → Type 0
Is at q x = x ≡ at

page_told : (at p : ℕ) (row : List ℕ) → 1 ≤ at → Tells (Is at) (Unit {0}) (p ∷ []) row (claim at p row)
unfolding claim
page_told at p row l = go (ltb p (length row)) (eqb (get_or row p 0) 0) (ltb→lt p (length row)) (eqb→eq (get_or row p 0) 0)
    (λ o. let r = o p (mem_head p []) in
    let z : get_or row p 0 ≡ 0 = omega (arith, r.1, hit_refl p) in
    (lt→ltb p (length row) r.0, eq-eqb z))
  where
    go : (c k : Bool) → (T c → p < length row) → (T k → get_or row p 0 ≡ 0) → (Ownable (p ∷ []) row → T c × T k)
        → Tells (Is at) (Unit {0}) (p ∷ []) row (if c && k then goes (set row p at) else stops)
    go true true i u from =
        let z = u tt in
        let here : (q : ℕ) → Mem q (p ∷ []) → q ≡ p = λ q m. elim (mem_cons q p [] m) [ inl e ↦ e | inr n ↦ absurd (omega arith) ] in
        let same : (q : ℕ) → Mem q (p ∷ []) → get_or (set row p at) q 0 ≡ at = λ q m. ap (λ (x : ℕ). get_or (set row p at) x 0) (here q m) ∙ get_or-set_same row p at 0 (i tt) in
        proved (set row p at) tt
        (λ q m. let e = here q m in subst (λ (x : ℕ). (x < length row) × (occ x (p ∷ []) + used row x ≤ 1)) (sym e) (i tt, omega (arith, hit_refl p)))
        (record {
          long = length-set row p at;
          kept = λ q z. get_or-set_other row p q at 0 (λ e. omega (arith, ap (λ (x : ℕ). occ x (p ∷ [])) e, hit_refl p));
          named = same;
          some = λ q m. omega (arith, same q m);
        })
    go true false i u from = refuted (λ g o. (from o).1)
    go false k i u from = refuted (λ g o. (from o).0)

chain_told : (b : Bytes) (at k p : ℕ) (row : List ℕ) → 1 ≤ at → Tells (Is at) (T (eqb (beyond (link b) k p) 0)) (chain (link b) k p) row (claim_chain b at k p row)
unfolding claim_chain chain beyond
chain_told b at zero p row l = tells_iff (λ g. g.0) (λ g. (g, tt)) (tells_if (eqb p 0) (none_told (Is at) row))
chain_told b at (suc k) p row l = tells_iff (λ g. g.1) (λ g. (tt, g)) (tells_then (page_told at p row l) (λ s g c. chain_told b at k (link b p) s l))

-- ---- entries

entry_told : (b : Bytes) (at : ℕ) (e : Entry) (row : List ℕ) → 1 ≤ at → Tells (Is at) (T (good_entry (view b) e)) (pages_of (view b) e) row (claim_entry b at e row)
unfolding claim_entry good_entry pages_of
entry_told b at vacant row l = none_told (Is at) row
entry_told b at (a_file locked name date start size) row l =
    let ends = eqb (beyond (link b) (pages_for size) start) 0 in
    tells_iff (λ g. both_and (legal_name name) ends g.0 g.1) (λ g. and_both (legal_name name) ends g)
    (tells_if (legal_name name) (chain_told b at (pages_for size) start row l))
entry_told b at (a_directory name date start size) row l =
    tells_iff (λ g. g.0) (λ g. (g, tt)) (tells_if (legal_name name && eqb size 0x0100) (page_told at start row l))

-- the owner is one of the entries at these positions
abbrev pub Among : Bytes → List ℕ → ℕ → ℕ → Type 0
Among b ats q x = Mem x ats × Mem q (pages_at (view b) x)

pub entries_told : (b : Bytes) (ats row : List ℕ) → ((at : ℕ) → Mem at ats → 1 ≤ at)
    → Tells (Among b ats) ((at : ℕ) → Mem at ats → T (good_entry (view b) (entry_at b at))) (flat_map (pages_at (view b)) ats) row (claim_entries b ats row)
unfolding claim_entries flat_map
entries_told b [] row h = tells_iff (λ (g : Unit {0}). λ at m. absurd (omega arith)) (λ g. tt) (none_told (Among b []) row)
entries_told b (at ∷ ats) row h =
    tells_iff
    (λ g. λ x m. elim (mem_cons x at ats m) [ inl e ↦ subst (λ (y : ℕ). T (good_entry (view b) (entry_at b y))) (sym e) g.0 | inr k ↦ g.1 x k ])
    (λ g. (g at (mem_head at ats), λ x m. g x (mem_tail x at ats m)))
    (tells_then
    (tells_names (λ q x m e. (subst (λ (y : ℕ). Mem y (at ∷ ats)) (sym e) (mem_head at ats), subst (λ (y : ℕ). Mem q (pages_at (view b) y)) (sym e) m))
    (entry_told b at (entry_at b at) row (h at (mem_head at ats))))
    (λ s g c. tells_names (λ q x m r. (mem_tail x at ats r.0, r.1)) (entries_told b ats s (λ x m. h x (mem_tail x at ats m)))))
