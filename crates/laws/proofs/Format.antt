-- A formatted image is sound and empty: its page 0 is one literal, in which no bit but the header's is set and every entry of the root is zero.
use mathlib.Core.Path.{◌≡◌, refl, sym, ap, ap₂, ◌∙◌, subst}
use Prim.Native.Nat.{ℕ, zero, suc, ◌+◌, ◌-◌, ◌/◌, ◌%◌, ◌^◌, ◌≤◌, ◌<◌}
use native.Mathlib.Omega.{arith}
use native.Mathlib.Nat.{zero-add, zero-div}
use native.Mathlib.Decide.{dec_lt}
use mathlib.Core.List.{[], ◌∷◌, ◌++◌}
use lib.ListN.{length, take, replicate, get_or-replicate}
use lib.Seq.{get_or-append-add}
use lib.Dec.{T}
use Rattle.volume.specs.Bytes.{Bytes, byte_at, bit}
use Rattle.volume.specs.Lists.{count_from}
use Rattle.volume.specs.Geometry as On
use Rattle.volume.proofs.Occ.{hit, hit_refl, hit_ne, occ, Mem}
use Rattle.volume.proofs.Tests.{no_conditions, cons_conditions, eq-eqb}
use Rattle.volume.proofs.Puts.{put_length, put_in, put_out}
use Rattle.volume.proofs.Bits.{bit_set}
use Rattle.model.specs.Layout.{page_count, valid_length, valid_header, page_bit, zero_bits}
use Rattle.model.specs.Entry.{entries, vacant, entry_at}
use Rattle.model.specs.Version1.{view}
use Rattle.model.specs.Sound.{owned, sound}
use Rattle.model.specs.Tree.{Row, Tree}
use Rattle.model.specs.Image.{row_at, tree_of, tree_in}
use Rattle.model.specs.Effect.{formatted}
use Rattle.model.specs.Meaning.{fresh_tree}
use Rattle.laws.proofs.Facts.{valid_sized, FactsTo, facts_sound}
use Rattle.laws.proofs.Entries.{entry_within}
use Rattle.laws.proofs.Vacant.{zero_vacant, vacant_row, vacant_owns, vacant_good}

-- page 0 as format writes it
abbrev header : Bytes → Bytes
header b = (0x5A ∷ 1 ∷ page_count b / 8 ∷ (page_count b - 1) ∷ 1 ∷ []) ++ replicate 251 0

bit_of_zero : (i : ℕ) → bit i 0 ≡ 0
bit_of_zero i = ap (λ (n : ℕ). n % 2) (zero-div (2 ^ i))

zeros_but_one : (b : Bytes) (n : ℕ) → ((q : ℕ) → q ≤ n → page_bit b q ≡ hit q 0) → zero_bits b (suc n) ≡ n
unfolding On.zero_bits
zeros_but_one b zero h = omega (arith, h 0 (omega arith), hit_refl 0)
zeros_but_one b (suc n) h = omega (arith, zeros_but_one b n (λ q l. h q (omega arith)), h (suc n) (omega arith), hit_ne (suc n) 0 (omega arith))

module _ (b : Bytes) (v : T (valid_length (length b))) where
  fits : 0 + length (header b) ≤ length b
  fits = let s = valid_sized b v in omega (arith, s.low, s.whole)

  pub formatted_length : length (formatted b) ≡ length b
  unfolding formatted
  formatted_length = put_length 0 (header b) b fits

  pages : page_count (formatted b) ≡ page_count b
  pages = ap (λ (n : ℕ). n / 256) formatted_length

  pub formatted_rest : (i : ℕ) → 256 ≤ i → byte_at (formatted b) i ≡ byte_at b i
  unfolding formatted
  formatted_rest i l = put_out 0 (header b) b fits i (λ k. l)

  on_header : (i : ℕ) → i < 256 → byte_at (formatted b) i ≡ byte_at (header b) i
  unfolding formatted
  on_header i l = ap (byte_at (formatted b)) (sym (zero-add i)) ∙ put_in 0 (header b) b fits i l

  zero_from : (i : ℕ) → 5 ≤ i → i < 256 → byte_at (formatted b) i ≡ 0
  zero_from i l u =
      let e : i ≡ 5 + (i - 5) = omega arith in
      on_header i u ∙ ap (byte_at (header b)) e
      ∙ get_or-append-add (take 5 (header b)) (replicate 251 0) (i - 5) 0 ∙ get_or-replicate {A = ℕ} 251 (i - 5) 0 0 (omega arith)

  -- only the header is marked
  bits : (q : ℕ) → q < 256 → page_bit (formatted b) q ≡ hit q 0
  unfolding On.page_bit
  bits q u = elim (dec_lt q 8) [
    | yes l ↦
        let at : 4 + q / 8 ≡ 4 = omega arith in
        let low : q % 8 ≡ q = omega arith in
        ap₂ bit low (ap (byte_at (formatted b)) at ∙ on_header 4 (omega arith)) ∙ bit_set 0 0 q refl ∙ ap (λ (n : ℕ). n + hit q 0) (bit_of_zero q) ∙ zero-add (hit q 0)
    | no l ↦ ap (bit (q % 8)) (zero_from (4 + q / 8) (omega arith) (omega arith)) ∙ bit_of_zero (q % 8) ∙ sym (hit_ne q 0 (omega arith))
  ]

  headed : T (valid_header (formatted b))
  unfolding valid_header
  headed = cons_conditions _ _ (eq-eqb (on_header 0 (omega arith))) (cons_conditions _ _ (eq-eqb (on_header 1 (omega arith)))
      (cons_conditions _ [] (eq-eqb (on_header 2 (omega arith) ∙ ap (λ (n : ℕ). n / 8) (sym pages))) no_conditions))

  pub fresh : T (sound (formatted b)) × (tree_of (formatted b) ≡ fresh_tree (page_count b))
  unfolding tree_in entries count_from
  fresh =
      let b' : Bytes = formatted b in
      let s = valid_sized b v in
      let d : ℕ = page_count b - 1 in
      let deep : page_count b' ≡ suc d = omega (arith, pages, s.low) in
      let empty : (x : ℕ) → Mem x (entries 0) → entry_at b' x ≡ vacant = λ x m.
      let w = entry_within 0 x m in zero_vacant b' x (zero_from x (omega (arith, w.far)) (omega (arith, w.high))) in
      let none_owned : (q : ℕ) → occ q (owned (suc d) (view b') 0) ≡ 0 = λ q. ap (occ q) (vacant_owns b' d 0 empty) in (
        facts_sound (subst (λ (n : ℕ). FactsTo n b') (sym deep) (record {
          fits = subst (λ (n : ℕ). T (valid_length n)) (sym formatted_length) v;
          headed = headed;
          bit_zero = bits 0 (omega arith) ∙ hit_refl 0;
          counted = on_header 3 (omega arith) ∙ sym (ap (zero_bits b') deep ∙ zeros_but_one b' d (λ q l. bits q (omega (arith, s.low, s.high))));
          formed = vacant_good b' d 0 empty;
          inside = λ q m. absurd (omega (arith, none_owned q));
          exact = λ q l u. none_owned q ∙ sym (bits q (omega (arith, s.high, deep)) ∙ hit_ne q 0 (omega arith));
        })),
        ap₂ {C = Tree} (λ (n : ℕ) (r : Row). record { pages = n; code = 0; root = r }) pages (ap (λ (n : ℕ). row_at n (view b') 0) deep ∙ vacant_row b' d 0 empty),
      )
