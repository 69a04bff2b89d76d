-- Tests on lists. Assumes nothing.
use Rattle.std.specs.Prelude.{ℕ, zero, suc, Bool, true, false, not, ◌&&◌, ◌||◌, List, [], ◌∷◌, eqb, cond, if◌then◌else◌}
use Rattle.std.proofs.Math.Option.{Option, none, some}

module _ {ℓ} {A : Type ℓ} where
  unfoldable pub all : (A → Bool) → List A → Bool
  all f [] = true
  all f (x ∷ xs) = f x && all f xs

  unfoldable pub any : (A → Bool) → List A → Bool
  any f [] = false
  any f (x ∷ xs) = f x || any f xs

  -- the elements that pass the test
  unfoldable pub keep : (A → Bool) → List A → List A
  keep f [] = []
  keep f (x ∷ xs) = let rest = keep f xs in cond (f x) (x ∷ rest) rest

  -- the last, or d for none
  unfoldable pub last_or : A → List A → A
  last_or d [] = d
  last_or d (x ∷ xs) = last_or x xs

-- every condition of a list holds
abbrev pub conditions : List Bool → Bool
conditions cs = all (λ c. c) cs

abbrev pub member : ℕ → List ℕ → Bool
member p ps = any (eqb p) ps

-- no number stands twice
unfoldable pub distinct : List ℕ → Bool
distinct [] = true
distinct (x ∷ xs) = not (member x xs) && distinct xs

-- the n numbers from i
unfoldable pub count_from : ℕ → ℕ → List ℕ
count_from i zero = []
count_from i (suc n) = i ∷ count_from (suc i) n

abbrev pub up_to : ℕ → List ℕ
up_to n = count_from 0 n

-- the first number of the list that passes
unfoldable pub first : (ℕ → Bool) → List ℕ → Option ℕ
first f [] = none
first f (x ∷ xs) = let rest = first f xs in if f x then some x else rest
