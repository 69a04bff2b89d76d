-- A page that gets an owner had none and lies in the row; a chain is claimed page by page.
use mathlib.Core.Path.{◌≡◌, refl, sym, ap, ◌∙◌}
use Prim.Native.Nat.{ℕ, zero, suc, ◌+◌, ◌-◌, ◌≤◌, ◌<◌}
use native.Mathlib.Omega.{arith}
use native.Mathlib.Numerals.{add-one}
use mathlib.Core.Bool.{Bool, true, false, not, ◌&&◌}
use mathlib.Core.List.{List, [], ◌∷◌, map}
use lib.ListN.{length, get_or, set, length-set}
use lib.Dec.{eqb, ltb}
use borrow.Author.Tests.{not-true, not-false, ltb-true, eq-eqb, ne_eqb}
use Rattle.volume.specs.Bytes.{Bytes}
use Rattle.std.specs.Prelude.{if◌then◌else◌}
use Rattle.volume.specs.Lists.{count_from}
use Rattle.model.specs.Layout.{pages_for, link}
use Rattle.model.specs.Name.{legal_name}
use Rattle.model.specs.Entry.{entry_count, entries, is_locked, name_at, date_at, entry_at}
use Rattle.fields.specs.declared.Entry.{Entry}
use Rattle.fields.specs.declared.Entry.TheVariants.{Vacant, File, Directory}
use Rattle.fields.specs.declared.Page.{Page}
use Rattle.fields.specs.Read.{entry_of}
use Rattle.claims.specs.Claim.{Visited, stops, goes, then_visit, claim, claim_chain, claim_entry, claim_entries}
use Rattle.claims.specs.Lent.{outcome, position, rest}

-- ---- answers that were tested

pub goes_of : (r : Bool) {m : List ℕ} {v : Visited} → outcome r m ≡ v → not r ≡ false → goes m ≡ v
goes_of r {m} e h = sym (ap (λ (s : Bool). outcome s m) (not-false r h)) ∙ e

pub stops_of : (r : Bool) {v : Visited} (m : List ℕ) → outcome r m ≡ v → not r ≡ true → stops ≡ v
stops_of r m e h = sym (ap (λ (s : Bool). outcome s m) (not-true r h)) ∙ e

pub told : {r s : Bool} → r ≡ s → not r ≡ false → s ≡ true
told {r} e h = sym e ∙ not-false r h

pub untold : {r s : Bool} → r ≡ s → not r ≡ true → s ≡ false
untold {r} e h = sym e ∙ not-true r h

abbrev row_of : Visited → List ℕ → List ℕ
row_of stops d = d
row_of (goes row) d = row

pub never : {A : Type 0} {m : List ℕ} → goes m ≡ stops → A
never e = let z : ◌≡◌ {A = ℕ} 1 0 = ap tag e in absurd (omega arith)
  where
    tag : Visited → ℕ
    tag stops = 0
    tag (goes row) = 1

pub goes_injective : {m n : List ℕ} → goes m ≡ goes n → m ≡ n
goes_injective {m} e = ap (λ (v : Visited). row_of v m) e

-- ---- one page

pub record Claimed (p : ℕ) (row row' : List ℕ) : Type 0 where
  pub here : p < length row
  pub long : length row' ≡ length row

pub page_claimed : (at p : ℕ) (row row' : List ℕ) → goes row' ≡ claim at p row → Claimed p row row'
unfolding claim
page_claimed at p row row' e = go (ltb p (length row)) (eqb (get_or row p 0) 0) refl e
  where
    go : (c k : Bool) → ltb p (length row) ≡ c → goes row' ≡ (if c && k then goes (set row p at) else stops) → Claimed p row row'
    go true true l q = record { here = ltb-true p (length row) l; long = ap length (goes_injective q) ∙ length-set row p at }
    go true false l q = never q
    go false k l q = never q

-- ---- a chain

pub chain_next : (b : Bytes) (at left p : ℕ) (row : List ℕ) → 0 < left → claim_chain b at left p row ≡ then_visit (claim at p row) (claim_chain b at (left - 1) (link b p))
unfolding claim_chain
chain_next b at zero p row l = absurd (omega arith)
chain_next b at (suc k) p row l = let e : suc k - 1 ≡ k = omega arith in rw e

pub chain_end : (b : Bytes) (at left p : ℕ) (row : List ℕ) → left ≤ 0 → claim_chain b at left p row ≡ (if eqb p 0 then goes row else stops)
unfolding claim_chain
chain_end b at zero p row l = refl
chain_end b at (suc k) p row l = absurd (omega arith)

-- as the code goes: v is what the whole chain gives, and r, m the answer of one claim with its row
module _ (b : Bytes) (at left p : ℕ) (row : List ℕ) {v : Visited} (is : v ≡ claim_chain b at left p row) where
  pub chain_stops : 0 < left → (r : Bool) (m : List ℕ) → outcome r m ≡ claim at p row → not r ≡ true → stops ≡ v
  unfolding then_visit
  chain_stops l r m e h = sym (is ∙ chain_next b at left p row l ∙ rw (← stops_of r m e h))

  pub chain_goes : 0 < left → (r : Bool) (m : List ℕ) → outcome r m ≡ claim at p row → not r ≡ false → {q n : ℕ} → q ≡ link b p → n ≡ left - 1 → v ≡ claim_chain b at n q m
  unfolding then_visit
  chain_goes l r m e h k same = is ∙ chain_next b at left p row l ∙ rw (← goes_of r e h, k, same)

  -- nothing is left, and z says whether the last link is 0
  pub chain_over : left ≤ 0 → {z : Bool} → z ≡ eqb p 0 → outcome z row ≡ v
  chain_over l {z} e = sym (is ∙ chain_end b at left p row l ∙ rw (← e) (by_test z))
    where
      by_test : (t : Bool) → (if t then goes row else stops) ≡ outcome t row
      by_test true = refl
      by_test false = refl

-- ---- an entry

-- the entry that was read
pub read_as : (b : Bytes) (at : ℕ) {r s : Entry} → entry_of r (is_locked b at) (name_at b at) (date_at b at) ≡ entry_at b at → r ≡ s → entry_of s (is_locked b at) (name_at b at) (date_at b at) ≡ entry_at b at
read_as b at h q = ap (λ (x : Entry). entry_of x (is_locked b at) (name_at b at) (date_at b at)) (sym q) ∙ h

-- what an entry claims goes by what was read at its position; l says whether its name is legal
module _ (b : Bytes) (at : ℕ) (row : List ℕ) {r : Entry} (read : entry_of r (is_locked b at) (name_at b at) (date_at b at) ≡ entry_at b at) where
  pub vacant_claims : r ≡ Vacant → goes row ≡ claim_entry b at (entry_at b at) row
  unfolding claim_entry
  vacant_claims e = rw (← read_as b at read e)

  module _ {start : Page} {size : ℕ} {l : Bool} (legal : l ≡ legal_name (name_at b at)) where
    pub file_unnamed : r ≡ File start size → not l ≡ true → stops ≡ claim_entry b at (entry_at b at) row
    unfolding claim_entry
    file_unnamed e n = rw (← read_as b at read e, untold legal n)

    pub file_claims : r ≡ File start size → not l ≡ false → {k : ℕ} → k ≡ pages_for size → {v : Visited} → v ≡ claim_chain b at k start.0 row → v ≡ claim_entry b at (entry_at b at) row
    unfolding claim_entry
    file_claims e n k c = rw (← read_as b at read e, told legal n, ← k) c

    pub directory_unnamed : r ≡ Directory start size → not l ≡ true → stops ≡ claim_entry b at (entry_at b at) row
    unfolding claim_entry
    directory_unnamed e n = rw (← read_as b at read e, untold legal n)

    pub directory_unsized : r ≡ Directory start size → not l ≡ false → (size ≡ 256 → ⊥) → stops ≡ claim_entry b at (entry_at b at) row
    unfolding claim_entry
    directory_unsized e n h = rw (← read_as b at read e, told legal n, ne_eqb _ _ h)

    pub directory_claims : r ≡ Directory start size → not l ≡ false → size ≡ 256 → {v : Visited} → v ≡ claim at start.0 row → v ≡ claim_entry b at (entry_at b at) row
    unfolding claim_entry
    directory_claims e n h c = rw (← read_as b at read e, told legal n, eq-eqb _ _ h) c

-- the same of entry i of a directory
pub seen : (b : Bytes) (d i : ℕ) {at : ℕ} {r s : Entry} → at ≡ position d i → entry_of r (is_locked b at) (name_at b at) (date_at b at) ≡ entry_at b at → r ≡ s
    → entry_of s (is_locked b (position d i)) (name_at b (position d i)) (date_at b (position d i)) ≡ entry_at b (position d i)
seen b d i {at} {r} {s} here read e = rw (← here, ← e) read

-- ---- the entries of a directory

pub rest_all : (p : ℕ) → entries p ≡ rest p 0
unfolding entries rest
rest_all p = let e : entry_count p ≡ entry_count p - 0 = omega arith in ap (λ (n : ℕ). map (position p) (count_from 0 n)) e

pub rest_next : (p i : ℕ) → i < entry_count p → rest p i ≡ position p i ∷ rest p (i + 1)
unfolding count_from rest
rest_next p i l = let e : entry_count p - i ≡ suc (entry_count p - (i + 1)) = omega arith in rw (e, add-one i)

pub rest_end : (p i : ℕ) → entry_count p ≤ i → rest p i ≡ []
unfolding count_from rest
rest_end p i l = let e : entry_count p - i ≡ 0 = omega arith in rw e

pub entries_next : (b : Bytes) (p i : ℕ) (row : List ℕ) {n : ℕ} → n ≡ entry_count p → i < n
    → claim_entries b (rest p i) row ≡ then_visit (claim_entry b (position p i) (entry_at b (position p i)) row) (claim_entries b (rest p (i + 1)))
unfolding claim_entries
entries_next b p i row c l = ap (λ (ats : List ℕ). claim_entries b ats row) (rest_next p i (omega arith))

pub entries_end : (b : Bytes) (p i : ℕ) (row : List ℕ) {n : ℕ} → n ≡ entry_count p → n ≤ i → claim_entries b (rest p i) row ≡ goes row
unfolding claim_entries
entries_end b p i row c l = ap (λ (ats : List ℕ). claim_entries b ats row) (rest_end p i (omega arith))

-- as the code goes: v is what the whole directory gives
module _ (b : Bytes) (p i : ℕ) (row : List ℕ) {v : Visited} (is : v ≡ claim_entries b (rest p i) row) {n : ℕ} (count : n ≡ entry_count p) where
  module _ (l : i < n) {at : ℕ} (here : at ≡ position p i) (r : Bool) (m : List ℕ) (e : outcome r m ≡ claim_entry b at (entry_at b at) row) where
    pub entries_go : not r ≡ false → v ≡ claim_entries b (rest p (i + 1)) m
    unfolding then_visit
    entries_go h = is ∙ entries_next b p i row count l ∙ rw (← here, ← goes_of r e h)

  pub entries_done : n ≤ i → goes row ≡ v
  entries_done l = sym (is ∙ entries_end b p i row count l)
