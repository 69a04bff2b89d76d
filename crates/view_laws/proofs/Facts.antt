-- The tests of a sound image as facts, in any version: range, "none is owned twice" and "marked exactly if owned" come to one equation for each page,
-- it is owned as often as its bit says. Length and header are the version's own.
use mathlib.Core.Path.{◌≡◌, ap, ◌∙◌}
use mathlib.Core.Logic.{◌≢◌, inl, inr}
use Prim.Native.Nat.{ℕ, zero, suc, ◌+◌, ◌-◌, ◌≤◌, ◌<◌}
use native.Mathlib.Omega.{arith}
use native.Mathlib.Decide.{dec_lt}
use mathlib.Core.Bool.{Bool, true, false, ◌&&◌, beq}
use mathlib.Core.List.{List, [], ◌∷◌, tail}
use lib.Dec.{T, eqb, leb, ltb, eqb→eq, leb→le, le→leb, ltb→lt, lt→ltb}
use Rattle.volume.specs.Lists.{all, conditions, member, distinct, count_from}
use Rattle.volume.proofs.Occ.{hit, hit_cases, occ, Mem, Nodup, mem_or_not, not_mem, occ_append}
use Rattle.volume.proofs.Tests.{and_both, both_and, no_conditions, conditions_cons, cons_conditions, distinct_occ, occ_distinct, all_occ, occ_all, occ_count_from, count_from_occ, member_occ, occ_member, eq-eqb}
use Rattle.volume.proofs.Marks.{bit_low}
use Rattle.model.specs.View.{View, page_bit, zero_bits, free_count}
use Rattle.model.specs.Sound.{good_directory, owned, all_owned, in_range, marked_below, sound_facts}
use Rattle.view_laws.proofs.Owns.{subtree}

-- ---- the facts

-- directories being read to a depth
pub record FactsTo (depth : ℕ) (v : View) : Type 0 where
  pub aside : (q : ℕ) → q < v.geometry.aside → page_bit v q ≡ 1
  pub counted : free_count v ≡ zero_bits v v.pages
  pub ended : T (v.directory_ends 0)
  pub formed : T (good_directory depth v 0)
  pub inside : (q : ℕ) → Mem q (all_owned depth v) → (v.geometry.aside ≤ q) × (q < v.pages)
  pub exact : (q : ℕ) → v.geometry.aside ≤ q → q < v.pages → occ q (all_owned depth v) ≡ page_bit v q

abbrev pub Facts : View → Type 0
Facts v = FactsTo v.pages v

-- the test "marked exactly if owned"
abbrev pub agrees : View → List ℕ → ℕ → Bool
agrees v pages p = beq (eqb (page_bit v p) 1) (member p pages)

beq_left : (c d : Bool) → T (beq c d) → T c → T d
beq_left true true h k = tt
beq_left true false h k = h
beq_left false d h k = absurd k

beq_right : (c d : Bool) → T (beq c d) → T d → T c
beq_right true d h k = tt
beq_right false true h k = h
beq_right false false h k = k

beq_both : (c d : Bool) → (T c → T d) → (T d → T c) → T (beq c d)
beq_both true true f g = tt
beq_both true false f g = f tt
beq_both false true f g = g tt
beq_both false false f g = tt

pub agrees_exact : (v : View) (pages : List ℕ) (q : ℕ) → Nodup pages → T (agrees v pages q) → occ q pages ≡ page_bit v q
agrees_exact v pages q once h = elim (mem_or_not q pages) [
  | inl m ↦
      let e = eqb→eq (page_bit v q) 1 (beq_right (eqb (page_bit v q) 1) (member q pages) h (occ_member q pages m)) in
      omega (arith, once q)
  | inr z ↦
      let ne : page_bit v q ≢ 1 = λ e. let m = member_occ q pages (beq_left (eqb (page_bit v q) 1) (member q pages) h (eq-eqb e)) in omega arith in
      omega (arith, bit_low v.geometry v.bytes q)
]

pub exact_agrees : (v : View) (pages : List ℕ) (q : ℕ) → occ q pages ≡ page_bit v q → T (agrees v pages q)
exact_agrees v pages q e = beq_both (eqb (page_bit v q) 1) (member q pages)
    (λ h. let u = eqb→eq (page_bit v q) 1 h in occ_member q pages (omega arith))
    (λ m. let one : page_bit v q ≡ 1 = omega (arith, member_occ q pages m, bit_low v.geometry v.bytes q) in eq-eqb one)

-- each page is owned at most once
pub once : {d : ℕ} {v : View} → FactsTo d v → (q : ℕ) → occ q (all_owned d v) ≤ 1
once {d} {v} f q = elim (mem_or_not q (all_owned d v)) [
  | inl m ↦ let r = f.inside q m in omega (arith, f.exact q r.0 r.1, bit_low v.geometry v.bytes q)
  | inr z ↦ omega arith
]

-- ---- the tests as facts, and back

-- the bits of the pages set aside, one by one
pub marked_below_lem : (v : View) (n : ℕ) → T (marked_below v n) → (q : ℕ) → q < n → page_bit v q ≡ 1
marked_below_lem v zero h q l = absurd (omega arith)
marked_below_lem v (suc n) h q l =
    let r = and_both (marked_below v n) (eqb (page_bit v n) 1) h in
    elim (dec_lt q n) [
      | yes k ↦ marked_below_lem v n r.0 q k
      | no k ↦ let e : q ≡ n = omega arith in ap (page_bit v) e ∙ eqb→eq (page_bit v n) 1 r.1
    ]

pub below_marked : (v : View) (n : ℕ) → ((q : ℕ) → q < n → page_bit v q ≡ 1) → T (marked_below v n)
below_marked v zero h = tt
below_marked v (suc n) h = both_and (marked_below v n) (eqb (page_bit v n) 1) (below_marked v n (λ q l. h q (omega arith))) (eq-eqb (h n (omega arith)))

module _ {depth : ℕ} {v : View} where
  pub to_facts : T (conditions (sound_facts depth v)) → FactsTo depth v
  to_facts h =
      let a : ℕ = v.geometry.aside in
      let pages : List ℕ = all_owned depth v in
      let t1 = conditions_cons (marked_below v a) _ h in
      let t2 = conditions_cons (eqb (free_count v) (zero_bits v v.pages)) _ t1.1 in
      let t3 = conditions_cons (v.directory_ends 0 && good_directory depth v 0) _ t2.1 in
      let t4 = conditions_cons (all (in_range v) pages) _ t3.1 in
      let t5 = conditions_cons (distinct pages) _ t4.1 in
      let t6 = conditions_cons (all (agrees v pages) (count_from a (v.pages - a))) [] t5.1 in
      let root = and_both (v.directory_ends 0) (good_directory depth v 0) t3.0 in
      record {
        aside = marked_below_lem v a t1.0;
        counted = eqb→eq (free_count v) (zero_bits v v.pages) t2.0;
        ended = root.0;
        formed = root.1;
        inside = λ q m.
            let r = and_both (leb a q) (ltb q v.pages) (all_occ (in_range v) pages t4.0 q m) in
            (leb→le a q r.0, ltb→lt q v.pages r.1);
        exact = λ q l u. agrees_exact v pages q (distinct_occ pages t5.0)
            (all_occ (agrees v pages) (count_from a (v.pages - a)) t6.0 q (occ_count_from a (v.pages - a) q l (omega arith)));
      }

  pub from_facts : FactsTo depth v → T (conditions (sound_facts depth v))
  from_facts f =
      let a : ℕ = v.geometry.aside in
      let pages : List ℕ = all_owned depth v in
      cons_conditions _ _ (below_marked v a f.aside) (cons_conditions _ _ (eq-eqb f.counted)
      (cons_conditions _ _ (both_and (v.directory_ends 0) (good_directory depth v 0) f.ended f.formed)
      (cons_conditions _ _
      (occ_all (in_range v) pages (λ q m. let r = f.inside q m in both_and (leb a q) (ltb q v.pages) (le→leb a q r.0) (lt→ltb q v.pages r.1)))
      (cons_conditions _ _ (occ_distinct pages (once f))
      (cons_conditions _ []
      (occ_all (agrees v pages) (count_from a (v.pages - a)) (λ q m.
      let r = count_from_occ a (v.pages - a) q m in exact_agrees v pages q (f.exact q r.0 (omega (arith, r.0, r.1)))))
      no_conditions)))))

-- ---- the root's pages, of which the header is the first

abbrev pub Rooted : View → Type 0
Rooted v = (rest : List ℕ) × (v.directory_pages 0 ≡ 0 ∷ rest)

pub root_all : (v : View) → Rooted v → (d q : ℕ) → occ q (subtree d v 0) ≡ hit q 0 + occ q (all_owned d v)
root_all v r d q =
    let e : tail (v.directory_pages 0) ≡ r.0 = ap tail r.1 in
    let x : occ q (v.directory_pages 0) ≡ hit q 0 + occ q r.0 = ap (occ q) r.1 in
    omega (arith, occ_append q (v.directory_pages 0) (owned d v 0), occ_append q (tail (v.directory_pages 0)) (owned d v 0), x, ap (occ q) e)

-- the header and the owned pages, each once
pub root_once : {v : View} → Facts v → 1 ≤ v.geometry.aside → Rooted v → (q : ℕ) → occ q (subtree v.pages v 0) ≤ 1
root_once {v} f low r q =
    let one = once f q in
    let e = root_all v r v.pages q in
    elim (hit_cases q 0) [
      | inl w ↦
          let z : occ 0 (all_owned v.pages v) ≡ 0 = not_mem 0 (all_owned v.pages v) (λ k. omega (arith, low, (f.inside 0 k).0)) in
          omega (arith, w.1, z, e, ap (λ (x : ℕ). occ x (all_owned v.pages v)) w.0)
      | inr w ↦ omega (arith, w.1, one, e)
    ]
