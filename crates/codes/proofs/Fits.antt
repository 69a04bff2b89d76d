-- A refusal fits its code: what a version's calls are refused with has room (`Roomy`, in code_laws), and version 1 is such a version.
use mathlib.Core.Path.{◌≡◌, refl, sym, ap, ◌∙◌, subst}
use Prim.Native.Nat.{ℕ, ◌≤◌, ◌<◌}
use native.Mathlib.Omega.{arith}
use mathlib.Core.Bool.{Bool, true, false}
use mathlib.Core.List.{List, ◌∷◌}
use lib.ListN.{length}
use lib.Dec.{T, leb, ltb, leb→le, ltb→lt}
use Rattle.volume.specs.Bytes.{Bytes}
use Rattle.volume.specs.Lists.{all}
use Rattle.volume.proofs.Tests.{and_both, not_not}
use Rattle.model.specs.Layout.{page_count, valid_length}
use Rattle.model.specs.Judge.{Fault, bad_entry, bad_chain, owned_twice, marked_free, lost_page, bad_count}
use Rattle.model.specs.Version1.{view}
use Rattle.model.specs.Version.{Version, Calls, v1}
use Rattle.model.specs.Image.{tree_of}
use Rattle.model.specs.Call.{Told, Refusal, Answer, refused, granted}
use Rattle.model.specs.RefusalOf.{Passes}
use Rattle.model.specs.MeaningOf.{length_line, header_lines, answer}
use Rattle.laws.proofs.Lines.{passed}
use Rattle.code_laws.proofs.Stops.{Shallow, height_tree}
use Rattle.code_laws.proofs.Room.{in_code, answer_passes, Pointing, Roomy, answer_in}
use Rattle.judge.proofs.Image.{allowed}
use Rattle.judge.proofs.Placed.{InPlace, fault_placed}
use Rattle.codes.specs.Codes.{packed, refusal_code, code_of, Apart, Fits, place_of}

-- ---- what the code tells

pub record InCode (m : Refusal) : Type 0 where
  pub refuses : 1 ≤ m.number
  pub number : m.number < 256
  pub place : Fits m.place

pub in_code_lem : (m : Refusal) → T (in_code m) → InCode m
unfolding in_code all
in_code_lem m h =
    let a = and_both (leb 1 m.number) _ h in
    let b = and_both (ltb m.number 256) _ a.1 in
    let c = and_both (ltb m.place.0 65536) _ b.1 in
    let d = and_both (ltb m.place.1 65536) _ c.1 in
    let e = and_both (ltb m.place.2 65536) _ d.1 in
    record {
      refuses = leb→le 1 m.number a.0;
      number = ltb→lt m.number 256 b.0;
      place = record { first = ltb→lt m.place.0 65536 c.0; second = ltb→lt m.place.1 65536 d.0; third = ltb→lt m.place.2 65536 e.0 };
    }

pub apart : (m : Refusal) → InCode m → Apart (refusal_code m) m
unfolding packed
apart m i =
    let f = i.place in
    record { refuses = omega arith; number = omega arith; first = omega arith; second = omega arith; third = omega arith }

-- ---- the calls of a version

module _ {w : Version} (r : Roomy w) where
  refused_in : (c : Calls w) (b : Bytes) (m : Refusal) → answer w c b ≡ refused m → InCode m
  refused_in c b m e = in_code_lem m (subst (λ (a : Answer (Told c)). T (answer_passes in_code a)) e (answer_in r c b))

  -- The code of a refused call is not 0, and it tells number and place.
  pub code_apart : (c : Calls w) (b : Bytes) (m : Refusal) → answer w c b ≡ refused m → Apart (code_of (answer w c b)) m
  unfolding code_of
  code_apart c b m e = rw e (apart m (refused_in c b m e))

  -- the same of the place alone, as the code's functions ask it
  pub refused_fits : (c : Calls w) (b : Bytes) {m : Refusal} → refused m ≡ answer w c b → Fits m.place
  refused_fits c b {m} e = (refused_in c b m (sym e)).place

  pub place_fits : (c : Calls w) (b : Bytes) → Fits (place_of (answer w c b))
  place_fits c b = go (answer w c b) (refused_in c b)
    where
      go : (a : Answer (Told c)) → ((m : Refusal) → a ≡ refused m → InCode m) → Fits (place_of a)
      go (refused m) i = (i m refl).place
      go (granted x) i = record { first = omega arith; second = omega arith; third = omega arith }

  -- an answer that is the model's
  pub change_fits : (c : Calls w) (b : Bytes) {a : Answer (Told c)} → a ≡ answer w c b → Fits (place_of a)
  change_fits c b e = rw e (place_fits c b)

pub coded : {A : Type 0} {x y : Answer A} {n : ℕ} → n ≡ code_of x → x ≡ y → n ≡ code_of y
coded e is = e ∙ ap code_of is

-- ---- version 1

pub shallow : (b : Bytes) → page_count b ≤ 256 → Shallow (tree_of b)
shallow b few = omega (arith, few, height_tree (view b) 0)

-- an image of an allowed length has pages, and at most 256
pages_in : (b : Bytes) → Passes (length_line v1 b ∷ header_lines v1 b) → (1 ≤ page_count b) × (page_count b ≤ 256)
pages_in b e = go (valid_length (length b)) refl (not_not (valid_length (length b)) (passed _ _ e).0)
  where
    go : (v : Bool) → valid_length (length b) ≡ v → T v → (1 ≤ page_count b) × (page_count b ≤ 256)
    go true is t = let two = allowed (length b) is in (omega (arith, two.0), omega (arith, two.1))
    go false is t = absurd t

pointing : (n : ℕ) → n ≤ 256 → (f : Fault) → InPlace n f → Pointing f
pointing n few (bad_entry d i) h = (omega (arith, h.0), omega (arith, h.1))
pointing n few (bad_chain d i passed) h = (omega (arith, h.0), omega (arith, h.1), omega (arith, h.2))
pointing n few (owned_twice p) h = omega (arith, h)
pointing n few (marked_free p) h = omega (arith, h)
pointing n few (lost_page p) h = omega (arith, h)
pointing n few bad_count h = tt

pub roomy1 : Roomy v1
unfolding all in_code
roomy1 = record {
  handed = λ c n. tt;
  headed = λ b. tt;
  few = λ b e. omega (arith, (pages_in b e).1);
  pointing = λ b e f is. let two = pages_in b e in pointing (page_count b) two.1 f (fault_placed b two.0 f is);
}
