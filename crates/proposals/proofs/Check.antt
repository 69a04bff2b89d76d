-- The check's way to `accepted`: N numbers below N, none of them met before, are each of 0 to N − 1 once; and by `links_near` the links of files'
-- pages say whether each file's pages are neighbours.
use mathlib.Core.Path.{◌≡◌, refl, sym, ap, ◌∙◌, subst}
use mathlib.Core.Logic.{◌≢◌, inl, inr}
use Prim.Native.Nat.{ℕ, zero, suc, ◌+◌, ◌-◌, ◌≤◌, ◌<◌}
use native.Mathlib.Omega.{arith}
use native.Mathlib.Numerals.{add-one}
use mathlib.Core.Bool.{Bool, true, false, ◌&&◌, ◌||◌}
use mathlib.Core.List.{List, [], ◌∷◌, map}
use lib.ListN.{length, get_or, drop, set, replicate, length-set, length-replicate, drop_of_length-le, get_or-eq_default}
use lib.Seq.{drop-cons, get_or-set_same, get_or-set_other}
use lib.Dec.{T, eqb, ltb, eqb→eq, ltb→lt, lt→ltb}
use Rattle.volume.specs.Bytes.{Bytes}
use Rattle.std.specs.Prelude.{if◌then◌else◌}
use Rattle.volume.specs.Lists.{all, member, count_from, up_to}
use Rattle.volume.proofs.Occ.{occ, Mem, Nodup, Under, mem_head, mem_tail, mem_cons, not_mem, nodup_cons, nodup_head, nodup_tail, under_cons, under_head, under_tail}
use Rattle.volume.proofs.Tests.{no_conditions, cons_conditions, occ_member, occ_distinct, all_occ, occ_all, occ_count_from, count_from_occ, eq-eqb}
use Rattle.model.specs.Layout.{page_count, link}
use Rattle.model.specs.Version1.{view}
use Rattle.model.specs.Sound.{sound, pages_at, reached_entries}
use Rattle.laws.proofs.Facts.{Facts, sound_facts_lem}
use Rattle.moves.specs.Tidy.{place_of, neighbours, owner_entry, accepted}
use Rattle.moves.specs.Propose.{is_file_entry}
use Rattle.moves.proofs.Places.{accepted_is}
use Rattle.moves.proofs.Order.{each_once}
use Rattle.moves.proofs.Near.{Linked}
use Rattle.moves.proofs.Links.{links_near}
use Rattle.proposals.specs.Steps.{takes, link_leads, leads_on}

-- ---- tests

pub true_of : {c : Bool} → T c → c ≡ true
true_of {c} t = go c t
  where
    go : (c : Bool) → T c → c ≡ true
    go true t = refl
    go false t = absurd t

pub false_of : {c : Bool} → (T c → ⊥) → c ≡ false
false_of {c} f = go c f
  where
    go : (c : Bool) → (T c → ⊥) → c ≡ false
    go true f = absurd (f tt)
    go false f = refl

pub of_true : {c : Bool} → c ≡ true → T c
of_true e = subst (λ (x : Bool). T x) (sym e) tt

of_false : {c : Bool} → c ≡ false → T c → ⊥
of_false e t = subst (λ (x : Bool). T x) e t

both_ways : {c d : Bool} → (T c → T d) → (T d → T c) → c ≡ d
both_ways {c} {d} f g = go c d f g
  where
    go : (c d : Bool) → (T c → T d) → (T d → T c) → c ≡ d
    go true d f g = sym (true_of (f tt))
    go false true f g = absurd (g tt)
    go false false f g = refl

-- ---- numbers met for the first time

pub takes_next : (places seen : List ℕ) (p : ℕ) → p < length places
    → takes (drop p places) seen ≡ (if ltb (get_or places p 0) (length seen) && eqb (get_or seen (get_or places p 0) 0) 0 then takes (drop (p + 1) places) (set seen (get_or places p 0) 1) else false)
unfolding takes
takes_next places seen p l = rw (add-one, drop-cons places p 0)

module _ (places seen : List ℕ) (p x : ℕ) (l : p < length places) (e : x ≡ get_or places p 0) where
  abbrev step : Bool → Bool → Bool
  step c d = if c && d then takes (drop (p + 1) places) (set seen x 1) else false

  next : takes (drop p places) seen ≡ step (ltb x (length seen)) (eqb (get_or seen x 0) 0)
  next = takes_next places seen p l ∙ ap (λ (q : ℕ). if ltb q (length seen) && eqb (get_or seen q 0) 0 then takes (drop (p + 1) places) (set seen q 1) else false) (sym e)

  pub takes_past : length seen ≤ x → takes (drop p places) seen ≡ false
  takes_past u = next ∙ ap (λ (c : Bool). step c (eqb (get_or seen x 0) 0)) (false_of {c = ltb x (length seen)} (λ t. omega (arith, ltb→lt x (length seen) t)))

  pub takes_twice : x < length seen → get_or seen x 0 ≢ 0 → takes (drop p places) seen ≡ false
  takes_twice u n =
      next ∙ ap (λ (c : Bool). step c (eqb (get_or seen x 0) 0)) (true_of {c = ltb x (length seen)} (lt→ltb x (length seen) u))
      ∙ ap (step true) (false_of {c = eqb (get_or seen x 0) 0} (λ t. n (eqb→eq (get_or seen x 0) 0 t)))

  pub takes_new : x < length seen → get_or seen x 0 ≡ 0 → takes (drop p places) seen ≡ takes (drop (p + 1) places) (set seen x 1)
  takes_new u z = next ∙ ap (λ (c : Bool). step c (eqb (get_or seen x 0) 0)) (true_of {c = ltb x (length seen)} (lt→ltb x (length seen) u)) ∙ ap (step true) (true_of {c = eqb (get_or seen x 0) 0} (eq-eqb z))

pub takes_end : (places seen : List ℕ) (p : ℕ) → length places ≤ p → takes (drop p places) seen ≡ true
unfolding takes
takes_end places seen p l = rw (drop_of_length-le places l)

takes_true : (qs seen : List ℕ) → Nodup qs → Under (length seen) qs → ((q : ℕ) → Mem q qs → get_or seen q 0 ≡ 0) → T (takes qs seen)
unfolding takes
takes_true [] seen d u z = tt
takes_true (q ∷ qs) seen d u z =
    go (ltb q (length seen)) (true_of (lt→ltb q (length seen) (under_head (length seen) q qs u))) (eqb (get_or seen q 0) 0) (true_of (eq-eqb (z q (mem_head q qs))))
    (takes_true qs (set seen q 1) (nodup_tail q qs d) (λ x k. under_tail (length seen) q qs u x (omega (arith, length-set seen q 1)))
    (λ x m. get_or-set_other seen q x 1 0 (λ e. omega (arith, nodup_head q qs d, ap (λ (y : ℕ). occ y qs) e, m)) ∙ z x (mem_tail x q qs m)))
  where
    go : (c : Bool) → c ≡ true → (d : Bool) → d ≡ true → T (takes qs (set seen q 1)) → T (if c && d then takes qs (set seen q 1) else false)
    go true e true f t = t
    go true e false f t = absurd (of_false (sym f) tt)
    go false e d f t = absurd (of_false (sym e) tt)

record Taken (qs seen : List ℕ) : Type 0 where
  once : Nodup qs
  under : Under (length seen) qs
  fresh : (q : ℕ) → Mem q qs → get_or seen q 0 ≡ 0

true_takes : (qs seen : List ℕ) → T (takes qs seen) → Taken qs seen
unfolding takes
true_takes [] seen t = record { once = λ q. omega arith; under = λ q l. refl; fresh = λ q m. absurd (omega arith) }
true_takes (q ∷ qs) seen t = go (ltb q (length seen)) refl (eqb (get_or seen q 0) 0) refl t (true_takes qs (set seen q 1))
  where
    go : (c : Bool) → ltb q (length seen) ≡ c → (d : Bool) → eqb (get_or seen q 0) 0 ≡ d → T (if c && d then takes qs (set seen q 1) else false)
        → (T (takes qs (set seen q 1)) → Taken qs (set seen q 1)) → Taken (q ∷ qs) seen
    go true e true f t next =
        let r = next t in
        let l : q < length seen = ltb→lt q (length seen) (of_true e) in
        let z : get_or seen q 0 ≡ 0 = eqb→eq (get_or seen q 0) 0 (of_true f) in
        let none : occ q qs ≡ 0 = not_mem q qs (λ m. omega (arith, r.fresh q m, get_or-set_same seen q 1 0 l)) in
        record {
          once = nodup_cons q qs none r.once;
          under = under_cons (length seen) q qs l (λ x k. r.under x (omega (arith, length-set seen q 1)));
          fresh = λ x m. elim (mem_cons x q qs m) [
            | inl u ↦ ap (λ (y : ℕ). get_or seen y 0) u ∙ z
            | inr k ↦ sym (get_or-set_other seen q x 1 0 (λ u. omega (arith, none, ap (λ (y : ℕ). occ y qs) u, k))) ∙ r.fresh x k
          ];
        }
    go true e false f t next = absurd t
    go false e d f t next = absurd t

zero_at : (n q : ℕ) → get_or {A = ℕ} (replicate n 0) q 0 ≡ 0
zero_at zero q = refl
zero_at (suc n) zero = refl
zero_at (suc n) (suc q) = zero_at n q

-- ---- links

linked_leads : (b : Bytes) (places : List ℕ) (p : ℕ) → Linked (link b) (place_of places) p → T (link_leads b places p)
unfolding link_leads
linked_leads b places p (inl e) = or_left (eqb (link b p) 0) (eqb (place_of places (link b p)) (suc (place_of places p))) (eq-eqb e)
  where
    or_left : (c d : Bool) → T c → T (c || d)
    or_left true d t = tt
    or_left false d t = absurd t
linked_leads b places p (inr e) = or_right (eqb (link b p) 0) (eqb (place_of places (link b p)) (suc (place_of places p))) (eq-eqb e)
  where
    or_right : (c d : Bool) → T d → T (c || d)
    or_right true d t = tt
    or_right false d t = t

leads_linked : (b : Bytes) (places : List ℕ) (p : ℕ) → T (link_leads b places p) → Linked (link b) (place_of places) p
unfolding link_leads
leads_linked b places p t = go (eqb (link b p) 0) refl t
  where
    go : (c : Bool) → eqb (link b p) 0 ≡ c → T (c || eqb (place_of places (link b p)) (suc (place_of places p))) → Linked (link b) (place_of places) p
    go true e t = inl (eqb→eq (link b p) 0 (of_true e))
    go false e t = inr (eqb→eq (place_of places (link b p)) (suc (place_of places p)) t)

pub leads_zero : (b : Bytes) (places : List ℕ) (p : ℕ) → link b p ≡ 0 → true ≡ link_leads b places p
leads_zero b places p e = sym (true_of (linked_leads b places p (inl e)))

pub leads_past : (b : Bytes) (places : List ℕ) (p : ℕ) → link b p ≢ 0 → length places ≤ link b p → false ≡ link_leads b places p
leads_past b places p n l = sym (false_of (λ t. elim (leads_linked b places p t) [
  | inl e ↦ n e
  | inr e ↦ omega (arith, e, get_or-eq_default places 0 l)
]))

pub leads_next : (b : Bytes) (places : List ℕ) (p : ℕ) → link b p ≢ 0 → eqb (place_of places (link b p)) (place_of places p + 1) ≡ link_leads b places p
unfolding link_leads
leads_next b places p n =
    let q : ℕ = place_of places (link b p) in
    ap (eqb q) (add-one (place_of places p)) ∙ sym (ap (λ (c : Bool). c || eqb q (suc (place_of places p))) (false_of {c = eqb (link b p) 0} (λ t. n (eqb→eq (link b p) 0 t))))

-- ---- all pages

module _ {b : Bytes} (f : Facts b) (places : List ℕ) where
  leads_links : T (all (leads_on b places) (count_from 1 (page_count b - 1))) → (p : ℕ) → 1 ≤ p → p < page_count b → T (is_file_entry (owner_entry b p)) → Linked (link b) (place_of places) p
  unfolding leads_on
  leads_links t p l u k =
      let r = all_occ (leads_on b places) (count_from 1 (page_count b - 1)) t p (occ_count_from 1 (page_count b - 1) p l (omega arith)) in
      go (is_file_entry (owner_entry b p)) k r
    where
      go : (c : Bool) → T c → T (if c then link_leads b places p else true) → Linked (link b) (place_of places) p
      go true k t = leads_linked b places p t
      go false k t = absurd k

  links_leads : ((p : ℕ) → 1 ≤ p → p < page_count b → T (is_file_entry (owner_entry b p)) → Linked (link b) (place_of places) p) → T (all (leads_on b places) (count_from 1 (page_count b - 1)))
  unfolding leads_on
  links_leads h = occ_all (leads_on b places) (count_from 1 (page_count b - 1)) (λ p m.
      let r = count_from_occ 1 (page_count b - 1) p m in
      go p (is_file_entry (owner_entry b p)) (h p r.0 (omega (arith, r.1))))
    where
      go : (p : ℕ) (c : Bool) → (T c → Linked (link b) (place_of places) p) → T (if c then link_leads b places p else true)
      go p true k = linked_leads b places p (k tt)
      go p false k = tt

  near_all : all (leads_on b places) (count_from 1 (page_count b - 1)) ≡ all (λ at. neighbours (map (place_of places) (pages_at (view b) at))) (reached_entries b)
  near_all = both_ways
      (λ t. occ_all (λ at. neighbours (map (place_of places) (pages_at (view b) at))) (reached_entries b) ((links_near b f places).0 (leads_links t)))
      (λ t. links_leads ((links_near b f places).1 (all_occ (λ at. neighbours (map (place_of places) (pages_at (view b) at))) (reached_entries b) t)))

-- ---- the check

module _ (b : Bytes) (places : List ℕ) where
  pub not_many : length places ≢ page_count b → false ≡ accepted b places
  not_many n = sym (false_of (λ t. n (accepted_is b places t).many))

  pub accepted_under : T (accepted b places) → Under (page_count b) places
  accepted_under t = (accepted_is b places t).under

  pub not_taken : takes places (replicate (page_count b) 0) ≡ false → false ≡ accepted b places
  not_taken e = sym (false_of (λ t.
      of_false e (takes_true places (replicate (page_count b) 0) (accepted_is b places t).once
      (λ q l. accepted_under t q (omega (arith, length-replicate {A = ℕ} (page_count b) 0))) (λ q m. zero_at (page_count b) q))))

  pub not_staying : place_of places 0 ≢ 0 → false ≡ accepted b places
  not_staying n = sym (false_of (λ t. n (accepted_is b places t).renames.stays))

  pub accepted_rest : T (sound b) → length places ≡ page_count b → takes places (replicate (page_count b) 0) ≡ true → place_of places 0 ≡ 0
      → all (leads_on b places) (count_from 1 (page_count b - 1)) ≡ accepted b places
  unfolding accepted
  accepted_rest h many e z =
      let f = sound_facts_lem h in
      let t = true_takes places (replicate (page_count b) 0) (of_true e) in
      let u : Under (page_count b) places = λ q l. t.under q (omega (arith, length-replicate {A = ℕ} (page_count b) 0)) in
      near_all f places ∙ both_ways
      (λ n.
      cons_conditions _ _ (eq-eqb many)
      (cons_conditions _ _ (occ_all (λ q. member q places) (up_to (page_count b)) (λ q m. let r = count_from_occ 0 (page_count b) q m in occ_member q places (each_once places (page_count b) many t.once u q (omega (arith, r.1)))))
      (cons_conditions _ _ (occ_distinct places t.once)
      (cons_conditions _ _ (eq-eqb z)
      (cons_conditions _ [] n no_conditions)))))
      (λ a. occ_all (λ at. neighbours (map (place_of places) (pages_at (view b) at))) (reached_entries b) (accepted_is b places a).near)
