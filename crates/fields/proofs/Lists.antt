-- What std says of a list's elements, in the words of `volume`.
use mathlib.Core.Path.{◌≡◌, refl, ap}
use mathlib.Core.Bool.{Bool, ◌&&◌}
use mathlib.Core.List.{List, [], ◌∷◌}
use Rattle.std.specs.List.{list_all}
use Rattle.volume.specs.Lists.{all}

pub all_listed : {X : Type 0} (test : X → Bool) (xs : List X) → list_all test xs ≡ all test xs
unfolding all
all_listed test [] = refl
all_listed test (x ∷ xs) = ap (λ (t : Bool). test x && t) (all_listed test xs)
