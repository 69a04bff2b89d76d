-- A turn over a slice of rows: what is left to judge, to pack or to put is that of the rows from i on.
use mathlib.Core.Path.{◌≡◌, sym, ap, ◌∙◌}
use Prim.Native.Nat.{ℕ, suc, ◌+◌, ◌-◌, ◌≤◌, ◌<◌}
use native.Mathlib.Omega.{arith}
use native.Mathlib.Numerals.{add-one}
use mathlib.Core.List.{List, ◌∷◌}
use lib.ListN.{length, get_or, drop, set, drop_of_length-le}
use lib.Seq.{drop-cons}
use Rattle.volume.specs.Bytes.{Bytes}
use Rattle.link_list.specs.declared.Row.{Row}
use Rattle.link_judge.specs.declared.Judged.{Judged}
use Rattle.link_judge.specs.Judged.{judged_next, judged_from}
use Rattle.link_rows.specs.declared.Step.{Step}
use Rattle.link_rows.specs.Told.{step_at}
use Rattle.link_slices.specs.Writing.{packed_at, packed_bytes, packed_from}
use Rattle.link_slices.proofs.Readings.{filled}

-- row i in front of the rows behind it
row_first : (xs : List Row) (i : ℕ) (d : Row) → i < length xs → drop i xs ≡ get_or xs i d ∷ drop (i + 1) xs
row_first xs i d l = drop-cons xs i d l ∙ ap (λ (k : ℕ). get_or xs i d ∷ drop k xs) (sym (add-one i))

module _ (xs : List Row) (i : ℕ) where
  module _ (d : Row) (l : i < length xs) where
    pub judged_turn : (j n : Judged) → n ≡ judged_next j i (get_or xs i d) → judged_from (i + 1) n (drop (i + 1) xs) ≡ judged_from i j (drop i xs)
    unfolding judged_from
    judged_turn j n h = ap (λ (k : Judged). judged_from (i + 1) k (drop (i + 1) xs)) h ∙ ap (judged_from i j) (sym (row_first xs i d l))

    pub packed_turn : (at n : ℕ) (b c : Bytes) → n ≡ packed_at (length b) at (get_or xs i d) → c ≡ packed_bytes at (get_or xs i d) b → packed_from n c (drop (i + 1) xs) ≡ packed_from at b (drop i xs)
    unfolding packed_from
    packed_turn at n b c h k =
        ap (λ (m : ℕ). packed_from m c (drop (i + 1) xs)) h ∙ ap (λ (d' : Bytes). packed_from (packed_at (length b) at (get_or xs i d)) d' (drop (i + 1) xs)) k
        ∙ ap (packed_from at b) (sym (row_first xs i d l))

  pub judged_last : length xs ≤ i → (j : Judged) → j ≡ judged_from i j (drop i xs)
  unfolding judged_from
  judged_last l j = ap (judged_from i j) (sym (drop_of_length-le xs l))

  pub packed_last : length xs ≤ i → (at : ℕ) (b : Bytes) → (at, b) ≡ packed_from at b (drop i xs)
  unfolding packed_from
  packed_last l at b = ap (packed_from at b) (sym (drop_of_length-le xs l))

-- ---- rows put at the front, of which i are behind

module _ (v : Bytes) (count i at : ℕ) (list : List Row) where
  pub filled_turn : (s : Step) → s ≡ step_at v at → i < count → filled v (count - (i + 1)) (i + 1) s.next (set list i s.row) ≡ filled v (count - i) i at list
  unfolding filled
  filled_turn s e h =
      let left : count - i ≡ suc (count - (i + 1)) = omega arith in
      ap (λ (r : Step). filled v (count - (i + 1)) (i + 1) r.next (set list i r.row)) e ∙ sym (ap (λ (n : ℕ). filled v n i at list) left)

  pub filled_last : count ≤ i → list ≡ filled v (count - i) i at list
  unfolding filled
  filled_last h = let left : count - i ≡ 0 = omega arith in sym (ap (λ (n : ℕ). filled v n i at list) left)
