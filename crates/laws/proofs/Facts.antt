-- The tests of a sound image as facts: length and header, and then those of its view.
use mathlib.Core.Path.{◌≡◌, refl, ap, ◌∙◌}
use Prim.Native.Nat.{ℕ, ◌*◌, ◌%◌, ◌≤◌, ◌<◌}
use native.Mathlib.Omega.{arith}
use mathlib.Core.List.{[], ◌∷◌}
use lib.ListN.{length}
use lib.Dec.{T, eqb, leb, eqb→eq, leb→le}
use Rattle.volume.specs.Bytes.{Bytes}
use Rattle.volume.proofs.Occ.{occ, Mem}
use Rattle.volume.proofs.Tests.{conditions_cons, cons_conditions}
use Rattle.model.specs.Layout.{page_count, valid_length, valid_header, free_count, page_bit, zero_bits}
use Rattle.model.specs.Version1.{view}
use Rattle.model.specs.Sound.{good_directory, owned, sound_to, sound, sound_by}
use Rattle.view_laws.proofs.Facts as Any
use Rattle.view_laws.proofs.Facts.{Rooted}

-- ---- lengths

pub record Sized (b : Bytes) : Type 0 where
  pub low : 8 ≤ page_count b
  pub high : page_count b ≤ 256
  pub whole : length b ≡ 256 * page_count b
  pub eights : page_count b % 8 ≡ 0

pub valid_sized : (b : Bytes) → T (valid_length (length b)) → Sized b
unfolding valid_length
valid_sized b h =
    let n = length b in
    let x = conditions_cons (eqb (n % 2048) 0) (leb 2048 n ∷ leb n 65536 ∷ []) h in
    let y = conditions_cons (leb 2048 n) (leb n 65536 ∷ []) x.1 in
    let z = conditions_cons (leb n 65536) [] y.1 in
    let e : n % 2048 ≡ 0 = eqb→eq (n % 2048) 0 x.0 in
    let l : 2048 ≤ n = leb→le 2048 n y.0 in
    let u : n ≤ 65536 = leb→le n 65536 z.0 in
    record { low = omega arith; high = omega arith; whole = omega arith; eights = omega arith }

-- ---- the facts

-- directories being read to a depth
pub record FactsTo (depth : ℕ) (b : Bytes) : Type 0 where
  pub fits : T (valid_length (length b))
  pub headed : T (valid_header b)
  pub bit_zero : page_bit b 0 ≡ 1
  pub counted : free_count b ≡ zero_bits b (page_count b)
  pub formed : T (good_directory depth (view b) 0)
  pub inside : (q : ℕ) → Mem q (owned depth (view b) 0) → (1 ≤ q) × (q < page_count b)
  pub exact : (q : ℕ) → 1 ≤ q → q < page_count b → occ q (owned depth (view b) 0) ≡ page_bit b q

abbrev pub Facts : Bytes → Type 0
Facts b = FactsTo (page_count b) b

-- the same as facts of the view, and back
pub viewed : {d : ℕ} {b : Bytes} → FactsTo d b → Any.FactsTo d (view b)
viewed {d} {b} f = record {
  aside = λ q l. let e : q ≡ 0 = omega arith in ap (page_bit b) e ∙ f.bit_zero;
  counted = f.counted;
  ended = tt;
  formed = f.formed;
  inside = f.inside;
  exact = f.exact;
}

pub of_view : {d : ℕ} {b : Bytes} → T (valid_length (length b)) → T (valid_header b) → Any.FactsTo d (view b) → FactsTo d b
of_view fits headed f = record {
  fits = fits;
  headed = headed;
  bit_zero = f.aside 0 (omega arith);
  counted = f.counted;
  formed = f.formed;
  inside = f.inside;
  exact = f.exact;
}

pub rooted : (b : Bytes) → Rooted (view b)
rooted b = ([], refl)

-- each page is owned at most once
pub once : {d : ℕ} {b : Bytes} → FactsTo d b → (q : ℕ) → occ q (owned d (view b) 0) ≤ 1
once f = Any.once (viewed f)

-- the root's page and the owned ones
pub root_once : {b : Bytes} → Facts b → (q : ℕ) → occ q (0 ∷ owned (page_count b) (view b) 0) ≤ 1
root_once {b} f = Any.root_once (viewed f) (omega arith) (rooted b)

module _ {depth : ℕ} {b : Bytes} where
  to_facts : T (sound_to depth b) → FactsTo depth b
  unfolding sound_by
  to_facts h =
      let t1 = conditions_cons (valid_length (length b)) _ h in
      let t2 = conditions_cons (valid_header b) _ t1.1 in
      of_view t1.0 t2.0 (Any.to_facts t2.1)

  from_facts : FactsTo depth b → T (sound_to depth b)
  unfolding sound_by
  from_facts f = cons_conditions _ _ f.fits (cons_conditions _ _ f.headed (Any.from_facts (viewed f)))

pub sound_facts_lem : {b : Bytes} → T (sound b) → Facts b
unfolding sound_by
sound_facts_lem {b} h = to_facts h

pub facts_sound : {b : Bytes} → Facts b → T (sound b)
unfolding sound_by
facts_sound {b} f = from_facts f

pub sound_to_facts : {depth : ℕ} {b : Bytes} → T (sound_to depth b) → FactsTo depth b
sound_to_facts {depth} {b} h = to_facts h
