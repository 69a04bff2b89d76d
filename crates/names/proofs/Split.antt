-- The parts that `split` cuts a path into at its slashes are the path's texts.
use mathlib.Core.Path.{◌≡◌, refl}
use Prim.Native.Nat.{ℕ}
use mathlib.Core.List.{List, [], ◌∷◌}
use lib.Dec.{eqb}
use Rattle.std.specs.List.{slice_split, onto_first}
use Rattle.volume.specs.Bytes.{Bytes}
use Rattle.model.specs.Path.{texts, before}

put_before : (c : ℕ) (vs : List Bytes) → onto_first c vs ≡ before c vs
unfolding before
put_before c [] = refl
put_before c (v ∷ vs) = refl

pub split_texts : (l : Bytes) → slice_split (λ c. eqb c 47) l ≡ texts l
unfolding texts
split_texts [] = refl
split_texts (c ∷ r) = rw (split_texts r, put_before c (texts r))
