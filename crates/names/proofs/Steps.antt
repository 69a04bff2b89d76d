-- What a loop over bytes sees at index k: each test runs along the list, so before the end it is the test of byte k and then that of the rest.
use mathlib.Core.Path.{◌≡◌, refl, sym, ap, ◌∙◌}
use mathlib.Core.Logic.{◌≢◌}
use mathlib.Core.Bool.{Bool, true, false, ◌&&◌}
use Prim.Native.Nat.{ℕ, suc, ◌+◌, ◌-◌, ◌≤◌, ◌<◌}
use native.Mathlib.Numerals.{add-one}
use native.Mathlib.Omega.{arith}
use mathlib.Core.List.{[], ◌∷◌}
use lib.ListN.{length, get_or, take, drop, drop_of_length-le, length-drop}
use lib.Seq.{drop-cons, take_all}
use lib.Dec.{eqb}
use borrow.Author.Tests.{eq-eqb, ne_eqb}
use Rattle.volume.specs.Bytes.{Bytes, same}
use Rattle.std.specs.Prelude.{Option, Some, None, unwrap_or}
use Rattle.std.specs.Option.{MatchOption}
use Rattle.std.specs.List.{HoldsAt, AllWithin}
use Rattle.std.proofs.lemmas.Iterator.{index_from_first}
use Rattle.names.specs.Texts.{text_length}

pub byte_next : (l : Bytes) (k : ℕ) → k < length l → drop k l ≡ get_or l k 0 ∷ drop (k + 1) l
byte_next l k h = rw (add-one, drop-cons l k 0)

-- the bytes from k on, as a part that ends with the bytes
pub part_to_end : (k : ℕ) (l : Bytes) → take (length l - k) (drop k l) ≡ drop k l
part_to_end k l = take_all (length l - k) (drop k l) (omega (arith, length-drop k l))

-- r says where the first slash stands, or that there is none: the text ends there, or is all bytes
module _ (l : Bytes) (r : Option ℕ) (found : MatchOption r (AllWithin (λ c. c ≢ 47) l 0 (length l)) (λ i. (i < length l) × HoldsAt (λ c. c ≡ 47) l i × AllWithin (λ c. c ≢ 47) l 0 i)) where
  text_by : text_length l ≡ unwrap_or r (length l)
  unfolding text_length
  text_by = index_from_first text_length (λ c. c ≡ 47) (λ c. c ≢ 47) refl (λ c l h. rw (eq-eqb c 47 h)) (λ c l h. rw (ne_eqb c 47 h, add-one)) l r found

  pub text_to : (k : ℕ) → r ≡ Some k → text_length l ≡ k
  text_to k e = text_by ∙ ap (λ (o : Option ℕ). unwrap_or o (length l)) e

  pub text_whole : r ≡ None → text_length l ≡ length l
  text_whole e = text_by ∙ ap (λ (o : Option ℕ). unwrap_or o (length l)) e

-- ---- two lists of bytes

and-true : (t : Bool) → (t && true) ≡ t
and-true true = refl
and-true false = refl

pub and_false : (t : Bool) → (t && false) ≡ false
and_false true = refl
and_false false = refl

-- f is what the bytes before k say, of two lists of one length
module _ (a b : Bytes) (k : ℕ) (f : Bool) (long : length a ≡ length b) (so_far : same a b ≡ (f && same (drop k a) (drop k b))) where
  both_next : k < length a → same (drop k a) (drop k b) ≡ (eqb (get_or a k 0) (get_or b k 0) && same (drop (k + 1) a) (drop (k + 1) b))
  unfolding same
  both_next h = rw (byte_next a k h, byte_next b k (omega arith))

  pub same_on : k < length a → same a b ≡ ((f && eqb (get_or a k 0) (get_or b k 0)) && same (drop (k + 1) a) (drop (k + 1) b))
  same_on h = so_far ∙ turn f
    where
      turn : (g : Bool) → (g && same (drop k a) (drop k b)) ≡ ((g && eqb (get_or a k 0) (get_or b k 0)) && same (drop (k + 1) a) (drop (k + 1) b))
      turn true = both_next h
      turn false = refl

  pub same_all : length a ≤ k → f ≡ same a b
  unfolding same
  same_all h = let g : length b ≤ k = omega arith in sym (so_far ∙ rw (drop_of_length-le a h, drop_of_length-le b g) (and-true f))

pub same_not : (a b : Bytes) → length a ≢ length b → false ≡ same a b
unfolding same
same_not [] [] h = absurd (h refl)
same_not [] (y ∷ b) h = refl
same_not (x ∷ a) [] h = refl
same_not (x ∷ a) (y ∷ b) h = rw (← same_not a b (λ e. h (ap suc e)), and_false (eqb x y))
