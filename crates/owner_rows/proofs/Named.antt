-- The visit of a sound image says yes, and its row is the owners'.
use mathlib.Core.Path.{◌≡◌, refl, sym, ap, ◌∙◌, subst}
use Prim.Native.Nat.{ℕ, ◌≤◌, ◌<◌}
use native.Mathlib.Omega.{arith}
use mathlib.Core.Bool.{Bool, true, false, not}
use mathlib.Core.List.{List, [], ◌∷◌, ◌++◌}
use lib.ListN.{length, set, take, drop, replicate, length-set, length-map, length-replicate}
use lib.Dec.{T}
use Rattle.volume.specs.Bytes.{Bytes}
use Rattle.std.specs.Prelude.{if◌then◌else◌}
use Rattle.model.specs.Layout.{page_count, valid_length, valid_header}
use Rattle.model.specs.Sound.{sound}
use Rattle.laws.proofs.Facts.{sound_facts_lem}
use Rattle.audit.specs.Owner.{owner_row, owner_number, owner_numbers}
use Rattle.claims.specs.Claim.{Visited, stops, goes}
use Rattle.audit.specs.Visit.{visit, concluded, first_row}
use Rattle.agreement.specs.Marked.{is_marked}
use Rattle.claims.specs.Lent.{Row}
use Rattle.audit.proofs.Promise.{audit_demand}
use Rattle.audit.proofs.Marks as Marks
use Rattle.owner_rows.specs.Says.{SaysYes, no_owners}

yes_of : (c : Bool) → T c → not c ≡ false
yes_of true t = refl
yes_of false t = absurd t

true_of : (c : Bool) → T c → c ≡ true
true_of true t = refl
true_of false t = absurd t

pub zeros_long : {row : List ℕ} → row ≡ no_owners → length row ≡ 256
unfolding no_owners
zeros_long e = ap length e ∙ length-replicate {A = ℕ} 256 0

pub zeros_first : {row : List ℕ} → row ≡ no_owners → 0 < length row
zeros_first e = omega (arith, zeros_long e)

numbers_long : (b : Bytes) → length (owner_numbers b) ≡ 256
unfolding owner_numbers
numbers_long b = length-map (owner_row b) owner_number ∙ audit_demand.long b

module _ (b : Bytes) (h : T (sound b)) where
  -- the second judge does not refuse it
  unrefuted : {A : Type 0} → stops ≡ concluded b (visit (page_count b) b (0 ∷ []) (first_row (page_count b))) → A
  unrefuted e =
      let f = sound_facts_lem h in
      let n = Marks.no_row b {r = valid_length (length b)} refl (yes_of (valid_length (length b)) f.fits) {s = valid_header b} refl (yes_of (valid_header b) f.headed) false [] e refl in
      let yes = true_of (sound b) h in
      let both = rw yes at n in
      absurd (cc)

  pub visit_says : SaysYes (visit (page_count b) b (0 ∷ []) (first_row (page_count b)))
  unfolding concluded
  visit_says = go (visit (page_count b) b (0 ∷ []) (first_row (page_count b))) refl
    where
      go : (v : Visited) → visit (page_count b) b (0 ∷ []) (first_row (page_count b)) ≡ v → SaysYes v
      go stops e = unrefuted (ap (concluded b) (sym e))
      go (goes m) e = record { row = m; is = refl }

  visit_names : (m : List ℕ) → goes m ≡ visit (page_count b) b (0 ∷ []) (first_row (page_count b)) → (n : ℕ) → n ≡ page_count b → m ++ drop {A = ℕ} n (1 ∷ replicate 255 0) ≡ owner_numbers b
  unfolding concluded
  visit_names m e n c = go (is_marked b m) (ap (concluded b) e)
    where
      go : (k : Bool) → (if k then goes m else stops) ≡ concluded b (visit (page_count b) b (0 ∷ []) (first_row (page_count b))) → m ++ drop {A = ℕ} n (1 ∷ replicate 255 0) ≡ owner_numbers b
      go true o =
          let f = sound_facts_lem h in
          let y = Marks.yes_row b {r = valid_length (length b)} refl (yes_of (valid_length (length b)) f.fits) {s = valid_header b} refl (yes_of (valid_header b) f.headed) true m o refl n c in
          let yes = true_of (sound b) h in
          let both = rw yes at y in
          cc
      go false o = unrefuted o

  -- as the code goes: the first n numbers of a row of zeros are lent, and the header has the first
  module _ {n : ℕ} (pages : n ≡ page_count b) {row : List ℕ} (zeros : row ≡ no_owners) where
    first : set row 0 1 ≡ 1 ∷ replicate 255 0
    unfolding no_owners
    first = ap (λ (r : List ℕ). set r 0 1) zeros

    few : n ≤ 256
    few = Marks.few b n pages (true_of (valid_length (length b)) (sound_facts_lem h).fits)

    pub lent_fits : n ≤ length (set row 0 1)
    lent_fits = omega (arith, few, zeros_long zeros, length-set row 0 1)

    pub lent_long : n ≡ length (take n (set row 0 1))
    lent_long = Marks.first_length b n pages (true_of (valid_length (length b)) (sound_facts_lem h).fits) ∙ ap (λ (r : List ℕ). length (take n r)) (sym first)

    pub lent_row : Row b (take n (set row 0 1)) × (take n (set row 0 1) ≡ first_row (page_count b)) × (8 ≤ page_count b) × SaysYes (visit (page_count b) b (0 ∷ []) (take n (set row 0 1)))
    lent_row =
        let f = Marks.first_row_lem b n pages (true_of (valid_length (length b)) (sound_facts_lem h).fits) in
        let t : take n (set row 0 1) ≡ take n (1 ∷ replicate 255 0) = ap (take n) first in (
          subst (Row b) (sym t) f.0,
          t ∙ f.1,
          f.2,
          subst (λ (r : List ℕ). SaysYes (visit (page_count b) b (0 ∷ []) r)) (sym (t ∙ f.1)) visit_says,
        )

    pub lent_named : {m : List ℕ} → goes m ≡ visit (page_count b) b (0 ∷ []) (take n (set row 0 1)) → m ++ drop n (set row 0 1) ≡ owner_numbers b
    lent_named {m} e =
        ap (λ (r : List ℕ). m ++ drop n r) first
        ∙ visit_names m (e ∙ ap (visit (page_count b) b (0 ∷ [])) lent_row.1) n pages

    pub lent_same : {m : List ℕ} → goes m ≡ visit (page_count b) b (0 ∷ []) (take n (set row 0 1)) → length (m ++ drop n (set row 0 1)) ≡ length row
    lent_same e = ap length (lent_named e) ∙ numbers_long b ∙ sym (zeros_long zeros)
