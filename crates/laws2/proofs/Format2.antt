-- A formatted image of version 2 is sound and empty: of the pages set aside all bytes from 8 on are 0, so the root ends on page 0, its entries are vacant, and
-- only those pages are marked.
use mathlib.Core.Path.{◌≡◌, refl, sym, ap, ap₂, ◌∙◌, subst}
use Prim.Native.Nat.{ℕ, zero, suc, ◌+◌, ◌-◌, ◌*◌, ◌/◌, ◌%◌, ◌^◌, ◌≤◌, ◌<◌}
use native.Mathlib.Omega.{arith}
use native.Mathlib.Nat.{zero-add, zero-div, mul_comm, mul-le-mul_left}
use native.Mathlib.Decide.{dec_lt}
use mathlib.Core.Bool.{Bool, true, false}
use mathlib.Core.List.{List, [], ◌∷◌, ◌++◌, flat_map, tail, append-nil}
use lib.ListN.{length, take, replicate, length-replicate, get_or-replicate}
use lib.Seq.{get_or-append-add}
use lib.Dec.{T}
use Rattle.volume.specs.Bytes.{Bytes, byte_at, bit, le16}
use Rattle.std.specs.Prelude.{if◌then◌else◌}
use Rattle.volume.specs.Field.{load, pair}
use Rattle.volume.specs.Chain.{chain, beyond, linked}
use Rattle.volume.specs.Geometry as On
use Rattle.volume.proofs.Occ.{occ, Mem, Nodup, nodup_cons, sum_zero}
use Rattle.volume.proofs.Tests.{not_not, no_conditions, cons_conditions, eq-eqb}
use Rattle.volume.proofs.Puts.{put_length, put_in}
use Rattle.volume.proofs.Bits.{bit_suc}
use Rattle.volume.proofs.Fields.{load_zero}
use Rattle.model.specs.Entry.{vacant}
use Rattle.model.specs.View.{View, next, page_bit, zero_bits, free_count}
use Rattle.model.specs.Sound.{all_owned}
use Rattle.model.specs.Tree.{empty_row}
use Rattle.model.specs.Image.{row_at, tree_in}
use Rattle.model.specs.Call.{format_as}
use Rattle.model.specs.RefusalOf.{Passes, earlier, refusals}
use Rattle.model.specs.MeaningOf.{sound, changed, tree_of}
use Rattle.model.specs.DemandsOf.{Formats, fresh_of}
use Rattle.view_laws.proofs.Facts.{FactsTo}
use Rattle.view_laws.proofs.Counting.{zeros_marked}
use Rattle.view_laws.proofs.Vacant.{vacant_row, vacant_owns, vacant_good}
use Rattle.view_laws.proofs.Chained.{linked_is}
use Rattle.version_laws.proofs.Lines.{passed}
use Rattle.model2.specs.Layout.{page_size, page_count, is_wide, set_aside, geometry2, code_in, valid_length, is_version2, fit_code, fit_header}
use Rattle.model2.specs.Version2.{entries_on, numbers2, view_by}
use Rattle.model2.specs.Format.{formatted}
use Rattle.model2.specs.Calls.{v2}
use Rattle.laws2.proofs.Bounds.{Allowed, bounds, all_bytes}
use Rattle.laws2.proofs.Lawful2.{link_in_lem}
use Rattle.laws2.proofs.Slots2.{zero_vacant, lies}
use Rattle.laws2.proofs.Version2.{tabled, shelved2, entries_count}
use Rattle.laws2.proofs.Facts2.{sound_facts_lem, sound_on}

-- ---- the bits of the pages set aside

bit_of_zero : (i : ℕ) → bit i 0 ≡ 0
bit_of_zero i = ap (λ (n : ℕ). n % 2) (zero-div (2 ^ i))

marked : (two : Bool) (q : ℕ) → q < (if two then 3 else 2) → bit q (2 ^ (if two then 3 else 2) - 1) ≡ 1
marked true zero l = refl
marked true (suc zero) l = refl
marked true (suc (suc zero)) l = refl
marked true (suc (suc (suc q))) l = absurd (omega arith)
marked false zero l = refl
marked false (suc zero) l = refl
marked false (suc (suc q)) l = absurd (omega arith)

clear : (two : Bool) (q : ℕ) → (if two then 3 else 2) ≤ q → bit q (2 ^ (if two then 3 else 2) - 1) ≡ 0
clear true q l =
    let e : q ≡ suc (suc (suc (q - 3))) = omega arith in
    ap (λ (i : ℕ). bit i 7) e ∙ bit_suc (suc (suc (q - 3))) 7 ∙ bit_suc (suc (q - 3)) 3 ∙ bit_suc (q - 3) 1 ∙ bit_of_zero (q - 3)
clear false q l =
    let e : q ≡ suc (suc (q - 2)) = omega arith in
    ap (λ (i : ℕ). bit i 3) e ∙ bit_suc (suc (q - 2)) 3 ∙ bit_suc (q - 2) 1 ∙ bit_of_zero (q - 2)

-- ---- the bytes

-- the pages set aside as format writes them
abbrev header : (code n : ℕ) → Bytes
header code n =
    let pages = page_count code n in
    let aside = set_aside n in
    0x5A ∷ 2 ∷ (le16 (pages / 8) ++ (le16 (pages - aside) ++ (code ∷ (2 ^ aside - 1) ∷ replicate (aside * page_size code - 8) 0)))

module _ (code : ℕ) (b : Bytes) (a : Allowed code (length b)) where
  abbrev till : ℕ
  till = set_aside (length b) * page_size code

  -- the header and its bitmap are in it
  more : 256 ≤ till
  more = omega (arith, (tabled a).table, (tabled a).large, mul_comm (set_aside (length b)) (page_size code))

  header_length : length (header code (length b)) ≡ till
  header_length = omega (arith, length-replicate {A = ℕ} (till - 8) 0, more)

  fits : 0 + length (header code (length b)) ≤ length b
  fits = omega (
    arith,
    header_length,
    (bounds a).whole,
    mul_comm (set_aside (length b)) (page_size code),
    mul-le-mul_left {m = set_aside (length b)} {n = page_count code (length b)} (page_size code) (tabled a).some,
  )

  pub formatted_length : length (formatted code b) ≡ length b
  unfolding formatted
  formatted_length = put_length 0 (header code (length b)) b fits

  on_header : (i : ℕ) → i < till → byte_at (formatted code b) i ≡ byte_at (header code (length b)) i
  unfolding formatted
  on_header i l = ap (byte_at (formatted code b)) (sym (zero-add i)) ∙ put_in 0 (header code (length b)) b fits i (omega (arith, header_length))

  zero_from : (i : ℕ) → 8 ≤ i → i < till → byte_at (formatted code b) i ≡ 0
  zero_from i l u =
      let e : i ≡ 8 + (i - 8) = omega arith in
      on_header i u ∙ ap (byte_at (header code (length b))) e
      ∙ get_or-append-add (take 8 (header code (length b))) (replicate (till - 8) 0) (i - 8) 0 ∙ get_or-replicate {A = ℕ} (till - 8) (i - 8) 0 0 (omega arith)

  -- ---- what they say

  abbrev fresh : Bytes
  fresh = formatted code b

  abbrev seen : View
  seen = view_by code (length b) fresh

  code_is : code_in fresh ≡ code
  code_is = on_header 6 (omega (arith, more))

  few_aside : set_aside (length b) ≤ 3
  few_aside = go (is_wide (length b))
    where
      go : (two : Bool) → (if two then 3 else 2) ≤ 3
      go true = omega arith
      go false = omega arith

  -- a bit of the first byte, and of any other
  low_bit : (q : ℕ) → q < 8 → page_bit seen q ≡ bit q (2 ^ set_aside (length b) - 1)
  unfolding On.page_bit
  low_bit q l =
      let at : 7 + q / 8 ≡ 7 = omega arith in
      let low : q % 8 ≡ q = omega arith in
      ap₂ bit low (ap (byte_at fresh) at ∙ on_header 7 (omega (arith, more)))

  set_bits : (q : ℕ) → q < set_aside (length b) → page_bit seen q ≡ 1
  set_bits q l = low_bit q (omega (arith, few_aside)) ∙ marked (is_wide (length b)) q l

  clear_bits : (q : ℕ) → set_aside (length b) ≤ q → q < page_count code (length b) → page_bit seen q ≡ 0
  unfolding On.page_bit
  clear_bits q l u = elim (dec_lt q 8) [
    | yes k ↦ low_bit q k ∙ clear (is_wide (length b)) q l
    | no k ↦ ap (bit (q % 8)) (zero_from (7 + q / 8) (omega arith) (omega (arith, (bounds a).few, more))) ∙ bit_of_zero (q % 8)
  ]

  count_is : free_count seen ≡ page_count code (length b) - set_aside (length b)
  count_is =
      let x : byte_at fresh 4 ≡ (page_count code (length b) - set_aside (length b)) % 256 = on_header 4 (omega (arith, more)) in
      let y : byte_at fresh 5 ≡ (page_count code (length b) - set_aside (length b)) / 256 = on_header 5 (omega (arith, more)) in
      omega (arith, x, y)

  counted : free_count seen ≡ zero_bits seen (page_count code (length b))
  counted = omega (
    arith,
    count_is,
    zeros_marked seen (set_aside (length b)) [] (page_count code (length b)) (λ q l u. set_bits q l) (λ q l. refl) (λ q l u. sym (clear_bits q l u)),
    sum_zero (λ p. occ p []) (page_count code (length b)) (λ q l. refl),
    (tabled a).some,
  )

  -- the table is zero, so the root is page 0 alone
  no_link : next seen 0 ≡ 0
  no_link = load_zero ((geometry2 code (length b)).link 0) fresh (λ i l u.
      let r = link_in_lem (tabled a) 0 i (omega (arith, (bounds a).some)) l u in
      zero_from i (omega (arith, r.0, (bounds a).large)) (omega (arith, r.1, mul_comm (set_aside (length b)) (page_size code))))

  root_page : linked (next seen) (page_count code (length b)) 0 ≡ 1
  unfolding chain beyond
  root_page = linked_is (next seen) 0 (page_count code (length b)) 0 (omega (arith, (bounds a).some)) (λ q m. absurd (omega (arith, m))) no_link

  root_pages : seen.directory_pages 0 ≡ 0 ∷ []
  unfolding chain
  root_pages = ap (λ (k : ℕ). chain (next seen) k 0) root_page

  ended : T (seen.directory_ends 0)
  unfolding beyond
  ended = eq-eqb (ap (λ (k : ℕ). beyond (next seen) k 0) root_page ∙ no_link)

  positions : seen.entries 0 ≡ entries_on (page_size code) (page_count code (length b)) 0
  unfolding flat_map
  positions =
      ap (flat_map (entries_on (page_size code) (page_count code (length b)))) root_pages ∙ append-nil (entries_on (page_size code) (page_count code (length b)) 0)

  vacants : (x : ℕ) → Mem x (seen.entries 0) → seen.entry_at x ≡ vacant
  vacants x m =
      let w = lies (tabled a) (bounds a).eights 0 x (subst (Mem x) positions m) in
      let u : x < till = omega (arith, w.till, (tabled a).table, mul_comm (set_aside (length b)) (page_size code)) in
      zero_vacant fresh x (zero_from x (omega (arith, w.behind, (bounds a).some)) u)

  once : Nodup (seen.entries 0)
  once = ((shelved2 a).regular fresh).apart 0 (subst Nodup (sym root_pages) (nodup_cons 0 [] refl (λ q. omega arith)))

  facts : (d : ℕ) → FactsTo (suc d) seen
  facts d =
      let none : (q : ℕ) → occ q (all_owned (suc d) seen) ≡ 0 = λ q. ap₂ (λ (ps os : List ℕ). occ q (tail ps ++ os)) root_pages (vacant_owns seen d 0 vacants) in
      record {
        aside = set_bits;
        counted = counted;
        ended = ended;
        formed = vacant_good seen d 0 vacants once;
        inside = λ q m. absurd (omega (arith, none q));
        exact = λ q l u. none q ∙ sym (clear_bits q l u);
      }

  deep : page_count code (length b) ≡ suc (page_count code (length b) - 1)
  deep = omega (arith, (bounds a).some)

  -- ---- lines 2 and 26

  versioned : T (is_version2 fresh)
  unfolding is_version2
  versioned = cons_conditions _ _ (eq-eqb (on_header 0 (omega (arith, more)))) (cons_conditions _ [] (eq-eqb (on_header 1 (omega (arith, more)))) no_conditions)

  headed : T (fit_header fresh)
  unfolding fit_header
  headed =
      let x : byte_at fresh 2 ≡ page_count code (length b) / 8 % 256 = on_header 2 (omega (arith, more)) in
      let y : byte_at fresh 3 ≡ page_count code (length b) / 8 / 256 = on_header 3 (omega (arith, more)) in
      let e : load (pair 2) fresh ≡ page_count code (length b) / 8 = omega (arith, x, y) in
      rw (code_is, formatted_length) (cons_conditions _ _ a.fit (cons_conditions _ [] (eq-eqb e) no_conditions))

  pub fresh2 : T (sound v2 fresh) × (tree_of v2 fresh ≡ fresh_of v2 code (length b))
  fresh2 =
      let N : ℕ = page_count code (length b) in
      let row : row_at N seen 0 ≡ empty_row (numbers2 code (N * page_size code)).root_entries =
      ap (λ (d : ℕ). row_at d seen 0) deep ∙ vacant_row seen (N - 1) 0 vacants
      ∙ ap empty_row (ap length positions ∙ entries_count (page_size code) N 0 ∙ ap (λ (m : ℕ). (numbers2 code m).root_entries) (sym (all_bytes a))) in
      sound_on fresh code_is formatted_length a versioned headed (subst (λ (d : ℕ). FactsTo d seen) (sym deep) (facts (N - 1)), row)

-- ---- format as a call

-- on any image that it takes
pub takes : (new : ℕ) (b : Bytes) → Formats v2 new b → Allowed new (length b)
takes new b e =
    let p = passed _ _ e in
    record { length = not_not (valid_length (length b)) p.0; fit = not_not (fit_code new (length b)) (passed _ _ p.1).0 }

-- on a sound one, whose tree knows its length
pub formats2 : (new : ℕ) (b : Bytes) → T (sound v2 b) → Passes (refusals v2 (format_as new) (tree_of v2 b))
    → T (sound v2 (formatted new b)) × (tree_of v2 (formatted new b) ≡ changed v2 (format_as new) (tree_of v2 b))
unfolding refusals earlier changed tree_in
formats2 new b h e =
    let s = sound_facts_lem h in
    let long = all_bytes s.allowed in
    let n : ℕ = page_count (code_in b) (length b) * page_size (code_in b) in
    let fit = subst (λ (m : ℕ). T (fit_code new m)) long (not_not (fit_code new n) (passed _ _ e).0) in
    let r = fresh2 new b (record { length = s.allowed.length; fit = fit }) in
    (r.0, r.1 ∙ ap (fresh_of v2 new) (sym long))
