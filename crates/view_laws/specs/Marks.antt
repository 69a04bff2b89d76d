-- How many pages have no owner yet, by their owner marks: the judge's walk grows no deeper than that.
use Rattle.std.specs.Prelude.{ℕ, ◌+◌, ◌-◌, List, [], ◌∷◌}

-- how many marks are 0
unfoldable pub zeros : List ℕ → ℕ
zeros [] = 0
zeros (mark ∷ marks) = 1 - mark + zeros marks

-- Page 0 is the header and never gets an owner, so it does not count.
unfoldable pub unowned : List ℕ → ℕ
unowned [] = 0
unowned (header ∷ marks) = zeros marks
