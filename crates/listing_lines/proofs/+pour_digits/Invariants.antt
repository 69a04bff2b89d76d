use Rattle.listing_lines.proofs.+pour_digits.Given as goal

abbrev pub decreases-pour_digits : goal.decreases-pour_digits
decreases-pour_digits l = l.places
